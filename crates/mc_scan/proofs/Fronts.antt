-- Lists that begin alike.
use Rattle.std.proofs.Common.{◌≡◌, ◌<◌, ℕ, suc, zero, Bool, true, false, nat_eq, List, [], ◌∷◌, ◌++◌, length, take, drop, get_or, refl, sym, subst, arith}
use Rattle.std.proofs.lemmas.Bool.{both_ways, eqb-false}
use Rattle.mc_tree.specs.Spellings.{Each, BeginsComment}
use Rattle.mc_tree.specs.ByteLaws.{Each-append_right}
use Rattle.mc_scan.specs.Runs.{RunsTo, StopsAt}

pub nonempty : (xs : List ℕ) → 0 < length xs → xs ≡ get_or xs 0 0 ∷ drop 1 xs
nonempty [] h = absurd (omega arith)
nonempty (x ∷ xs) h = refl

-- two lists of bytes that pass a test, each before a byte that fails it
pub record SameBreak (a b : List ℕ) (x y : ℕ) (p q : List ℕ) : Type 0 where
  pub fronts : a ≡ b
  pub breaks : x ≡ y
  pub backs : p ≡ q

pub break_unique : (test : ℕ → Bool) (a b : List ℕ) (x y : ℕ) (p q : List ℕ) → Each test a → Each test b → test x ≡ false → test y ≡ false → a ++ x ∷ p ≡ b ++ y ∷ q → SameBreak a b x y p q
break_unique test [] [] x y p q ha hb hx hy e = record { fronts = refl; breaks = cc; backs = cc }
break_unique test [] (c ∷ b) x y p q ha hb hx hy e =
    let same : x ≡ c = cc in
    absurd (both_ways (test c) (subst (λ (z : ℕ). test z ≡ false) same hx) hb.0)
break_unique test (c ∷ a) [] x y p q ha hb hx hy e =
    let same : y ≡ c = cc in
    absurd (both_ways (test c) (subst (λ (z : ℕ). test z ≡ false) same hy) ha.0)
break_unique test (c ∷ a) (d ∷ b) x y p q ha hb hx hy e =
    let f : a ++ x ∷ p ≡ b ++ y ∷ q = cc in
    let s : SameBreak a b x y p q = break_unique test a b x y p q ha.1 hb.1 hx hy f in
    let g : c ≡ d = cc in
    record { fronts = cc (g, s.fronts); breaks = s.breaks; backs = s.backs }

-- bytes that all pass have none that fails
pub no_break : (test : ℕ → Bool) (a : List ℕ) (x : ℕ) (p : List ℕ) → Each test (a ++ x ∷ p) → test x ≡ false → ⊥
no_break test a x p h e = both_ways (test x) e (Each-append_right test a (x ∷ p) h).0

-- a byte that passes one test and not another
pub apart : (test : ℕ → Bool) (x y : ℕ) → test x ≡ true → test y ≡ false → x ≡ y → ⊥
apart test x y h g e = both_ways (test y) g (subst (λ (z : ℕ). test z ≡ true) e h)

-- the run ends at the first byte that fails the test
pub record RunEnds (k x : ℕ) (bytes : List ℕ) : Type 0 where
  pub within : k < length bytes
  pub byte : get_or bytes k 0 ≡ x

run_end : (test : ℕ → Bool) (ds : List ℕ) (x : ℕ) (after : List ℕ) (k : ℕ) → Each test ds → test x ≡ false → Each test (take k (ds ++ x ∷ after)) → StopsAt test (drop k (ds ++ x ∷ after)) → RunEnds k x (ds ++ x ∷ after)
run_end test [] x after zero a b e s = record { within = omega arith; byte = refl }
run_end test [] x after (suc k) a b e s = absurd (both_ways (test x) b e.0)
run_end test (d ∷ ds) x after zero a b e s = absurd (both_ways (test d) s a.0)
run_end test (d ∷ ds) x after (suc k) a b e s =
    let r : RunEnds k x (ds ++ x ∷ after) = run_end test ds x after k a.1 b e.1 s in
    record { within = omega (arith, r.within); byte = r.byte }

pub run_ends : (test : ℕ → Bool) (ds : List ℕ) (x : ℕ) (after bytes : List ℕ) (k : ℕ) → Each test ds → test x ≡ false → RunsTo test k bytes → bytes ≡ ds ++ x ∷ after → RunEnds k x bytes
run_ends test ds x after bytes k a b r e =
    subst (λ (l : List ℕ). RunEnds k x l) (sym e)
    (run_end test ds x after k a b (subst (λ (l : List ℕ). Each test (take k l)) e r.each) (subst (λ (l : List ℕ). StopsAt test (drop k l)) e r.stops))

-- what stands behind the run fails the test
pub stop_fails : (test : ℕ → Bool) (left : List ℕ) (m : ℕ) (ms : List ℕ) → StopsAt test left → left ≡ m ∷ ms → test m ≡ false
stop_fails test left m ms s e = subst (λ (l : List ℕ). StopsAt test l) e s

-- only what begins with `(` begins a comment
pub no_comment : (b : ℕ) (bytes : List ℕ) → nat_eq b 40 ≡ false → ¬ BeginsComment (b ∷ bytes)
no_comment b bytes n h =
    let e : b ∷ bytes ≡ 40 ∷ 42 ∷ h.0 = h.1 in
    let same : b ≡ 40 = cc in
    eqb-false b 40 n same
