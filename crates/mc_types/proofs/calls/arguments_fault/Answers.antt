use Rattle.std.proofs.Common.{◌≡◌, ◌⊎◌, ℕ, ◌≤◌, List, [], ◌∷◌, length, drop, min, refl, ap, sym, ◌∙◌, inl, inr, arith, None}
use Rattle.std.proofs.lemmas.Bool.{cases_lt}
use Rattle.std.proofs.lemmas.List.{drop_all}
use Rattle.std.proofs.lemmas.Slice.Zip.{zip_end}
use Rattle.mc_prog.specs.declared.program.TypeInfo.{TypeInfo}
use Rattle.mc_prog.specs.declared.typing.Typed.{Typed}
use Rattle.mc_prog.specs.declared.typing.Wanted.{Wanted}
use Rattle.mc_prog.specs.Calls.{arguments_fault}
use Rattle.mc_types.proofs.calls.arguments_fault.Goals as goal

none-left : (types : List TypeInfo) (ws : List Wanted) → arguments_fault types ws [] ≡ None
none-left types [] = refl
none-left types (w ∷ ws) = refl

none-behind : (types : List TypeInfo) (ws : List Wanted) (bs : List Typed) (n : ℕ) → (length ws ≤ n) ⊎ (length bs ≤ n) → arguments_fault types (drop n ws) (drop n bs) ≡ None
none-behind types ws bs n (inl h) = ap (λ (left : List Wanted). arguments_fault types left (drop n bs)) (drop_all n ws h)
none-behind types ws bs n (inr h) = ap (λ (left : List Typed). arguments_fault types (drop n ws) left) (drop_all n bs h) ∙ none-left types (drop n ws)

least-reached : (n a b : ℕ) → n ≡ min a b → (a ≤ n) ⊎ (b ≤ n)
least-reached n a b e = elim (cases_lt a b) [ inl h ↦ inl (omega arith) | inr h ↦ inr (omega arith) ]

pub returns : goal.returns
returns c =
    let ws = c.args.wanted.now in
    let bs = c.args.arguments.now in
    let end = zip_end ws bs c.loop-taken.yielded c.into_iter-taken-iterator.result c.loop-taken.taken-iterator c.next.new.self c.next.result (cc) (cc) c.loop-taken.yielded_by c.in-None.is c.next.ensures.steps in
    sym (none-behind c.args.types.now ws bs (length c.loop-taken.yielded) (least-reached _ _ _ end)) ∙ c.loop-taken.invariant
