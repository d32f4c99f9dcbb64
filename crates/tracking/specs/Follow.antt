-- A step of the lower machine that the upper one can follow, again and again.
use Rattle.std.proofs.Common.{◌≡◌, ℕ, zero, suc, ◌+◌, ◌<◌, ◌≤◌, List, [], ◌∷◌, ◌++◌, length, take, refl, sym, ap, ◌∙◌, subst, arith, append_assoc, length-append}
use Rattle.std.proofs.lemmas.List.{append-nil}
use Rattle.tracking.specs.Tracking.{Tracking}

take-zero-of-nil : {A : Type 0} (k : ℕ) → take {A = A} k [] ≡ []
take-zero-of-nil zero = refl
take-zero-of-nil (suc k) = refl

take-past : {A : Type 0} (xs ys : List A) (n : ℕ) → take (length xs + n) (xs ++ ys) ≡ xs ++ take n ys
take-past [] ys n = let e : 0 + n ≡ n = omega arith in ap (λ k. take k ys) e
take-past {A} (x ∷ xs) ys n =
    let e : length (x ∷ xs) + n ≡ suc (length xs + n) = omega arith in
    ap (λ k. take k ((x ∷ xs) ++ ys)) e ∙ ap (λ l. x ∷ l) (take-past xs ys n)

module _ {L U : Type 0} (Facts : List L → List U → Type 0) (Allowed : List L → L → Type 0) where
  -- each of these steps is allowed after those before it
  abbrev pub AllAllowed : List L → List L → Type 0
  AllAllowed done [] = Unit {0}
  AllAllowed done (x ∷ rest) = Allowed done x × AllAllowed (done ++ x ∷ []) rest

  -- the upper machine follows one more step
  abbrev pub Follows : Type 0
  Follows = (done : List L) (ups : List U) (x : L) → Facts done ups → Allowed done x → (more : List U) × Facts (done ++ x ∷ []) (ups ++ more)

  record Goes (done rest : List L) (ups : List U) : Type 0 where
    run : List U
    position : ℕ → ℕ
    starts : position 0 ≡ 0
    ends : position (length rest) ≡ length run
    rises : (k : ℕ) → k < length rest → position k ≤ position (suc k)
    facts : (k : ℕ) → k ≤ length rest → Facts (done ++ take k rest) (ups ++ take (position k) run)

  abbrev positions : ℕ → (ℕ → ℕ) → ℕ → ℕ
  positions n p zero = 0
  positions n p (suc k) = n + p k

  same_facts : (a a' : List L) (b b' : List U) → a ≡ a' → b ≡ b' → Facts a b → Facts a' b'
  same_facts a a' b b' ea eb f = subst (λ y. Facts a' y) eb (subst (λ x. Facts x b) ea f)

  goes : Follows → (rest done : List L) (ups : List U) → Facts done ups → AllAllowed done rest → Goes done rest ups
  goes step [] done ups f all =
      record {
        run = [];
        position = λ k. 0;
        starts = refl;
        ends = refl;
        rises = λ k h. omega arith;
        facts = λ k h. same_facts done _ ups _ (sym (append-nil done) ∙ ap (λ l. done ++ l) (sym (take-zero-of-nil k))) (sym (append-nil ups)) f;
      }
  goes step (x ∷ rest) done ups f all =
      let s = step done ups x f all.0 in
      let more : List U = s.0 in
      let r = goes step rest (done ++ x ∷ []) (ups ++ more) s.1 all.1 in
      record {
        run = more ++ r.run;
        position = positions (length more) r.position;
        starts = refl;
        ends = ap (λ n. length more + n) r.ends ∙ sym (length-append more r.run);
        rises = rises more r.position r.starts r.rises;
        facts = facts more r.position r.run f r.facts;
      }
    where
      rises : (more : List U) (p : ℕ → ℕ) → p 0 ≡ 0 → ((k : ℕ) → k < length rest → p k ≤ p (suc k)) → (k : ℕ) → k < length (x ∷ rest) → positions (length more) p k ≤ positions (length more) p (suc k)
      rises more p e h zero l = omega arith
      rises more p e h (suc k) l = omega (arith, h k (omega arith))

      facts : (more : List U) (p : ℕ → ℕ) (run : List U) → Facts done ups → ((k : ℕ) → k ≤ length rest → Facts ((done ++ x ∷ []) ++ take k rest) ((ups ++ more) ++ take (p k) run)) → (k : ℕ) → k ≤ length (x ∷ rest) → Facts (done ++ take k (x ∷ rest)) (ups ++ take (positions (length more) p k) (more ++ run))
      facts more p run f h zero l = same_facts done _ ups _ (sym (append-nil done)) (sym (append-nil ups)) f
      facts more p run f h (suc k) l =
          same_facts _ _ _ _ (append_assoc done (x ∷ []) (take k rest)) (append_assoc ups more (take (p k) run) ∙ ap (λ l. ups ++ l) (sym (take-past more run (p k)))) (h k (omega arith))

  -- the whole of it
  pub tracking : Follows → Facts [] [] → (lows : List L) → AllAllowed [] lows → Tracking Facts lows
  tracking step f lows all =
      let r = goes step lows [] [] f all in
      record { run = r.run; position = r.position; starts = r.starts; ends = r.ends; rises = r.rises; facts = r.facts }
