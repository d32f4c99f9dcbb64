-- Advances up to a stop are the whole run.
use Rattle.std.proofs.lemmas.List.{append-nil}
use Rattle.std.proofs.Common.{append_assoc, zero, [], ◌≡◌, ℕ, suc, ◌+◌, ◌-◌, ◌<◌, true, List, ◌++◌, Option, Some, None, sym, ap, ◌∙◌, arith}
use Rattle.std.specs.Prelude.{is_some}
use Rattle.pdp_dev.specs.declared.entry.Entry.{Entry}
use Rattle.pdp_machine.specs.declared.stop.Stop.{Stop}
use Rattle.pdp_machine.specs.Timed.{Timed, advance}
use Rattle.pdp_machine.specs.Run.{advances}
use Rattle.pdp_machine.specs.Silence.{advances-stopped}

pub one_more_entries : (m m1 : Timed) (i : ℕ) (before more now : List Entry) → before ≡ (advances i m).entries → m1 ≡ (advances i m).machine → more ≡ (advance m1).entries → now ≡ before ++ more → now ≡ (advances (suc i) m).entries
unfolding advances
one_more_entries m m1 i before more now b e a n =
    n ∙ ap (λ (l : List Entry). before ++ l) (a ∙ ap (λ (x : Timed). (advance x).entries) e) ∙ ap (λ (l : List Entry). l ++ (advance (advances i m).machine).entries) b

pub one_more_machine : (m m1 m2 : Timed) (i : ℕ) → m1 ≡ (advances i m).machine → m2 ≡ (advance m1).machine → m2 ≡ (advances (suc i) m).machine
unfolding advances
one_more_machine m m1 m2 i e a = a ∙ ap (λ (x : Timed). (advance x).machine) e

pub ran_to_stop : (m : Timed) (i limit : ℕ) (o : Option Stop) → i < limit + 1 → (advances (suc i) m).machine.stop ≡ o → is_some o ≡ true → advances (suc i) m ≡ advances (limit + 1) m
ran_to_stop m i limit None h e s = cc
ran_to_stop m i limit (Some stop) h e s =
    let n : (limit - i) + suc i ≡ limit + 1 = omega arith in
    sym (advances-stopped (suc i) (limit - i) m stop e) ∙ ap (λ (k : ℕ). advances k m) n

-- more advances only add entries
pub advances_grow : (n k : ℕ) (m : Timed) → (rest : List Entry) × ((advances (k + n) m).entries ≡ (advances n m).entries ++ rest)
unfolding advances
advances_grow n zero m =
    let e : zero + n ≡ n = omega arith in
    ([], ap (λ (j : ℕ). (advances j m).entries) e ∙ sym (append-nil (advances n m).entries))
advances_grow n (suc k) m =
    let e : suc k + n ≡ suc (k + n) = omega arith in
    let g = advances_grow n k m in
    let a : List Entry = (advance (advances (k + n) m).machine).entries in
    (g.0 ++ a, ap (λ (j : ℕ). (advances j m).entries) e ∙ ap (λ (l : List Entry). l ++ a) g.1 ∙ append_assoc (advances n m).entries g.0 a)
