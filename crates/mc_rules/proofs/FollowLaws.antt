-- Calls that are looked at one after the other, each with the calls of what it calls.
use Rattle.std.specs.Prelude.{◌≡◌, ◌⊎◌, ℕ, ◌+◌, ◌-◌, ◌*◌, ◌^◌, ◌<◌, ◌≤◌, List, [], ◌∷◌, ◌++◌, Option, Some, None, Bool, true, false, if◌then◌else◌, option_map, slice_get}
use Rattle.std.proofs.Common.{sym, ◌∙◌, ap, subst, refl, inl, inr, ⊎_elim, arith, length, take, replicate, get_or}
use Rattle.std.specs.List.{Contains}
use Rattle.std.proofs.lemmas.Option.{none-some, same_Some, slice_get_within}
use Rattle.std.proofs.lemmas.List.{append-nil, take_more, take_all, take-append-le, length-set, length-append}
use Rattle.std.proofs.lemmas.List.Elements.{Contains-push_cases, Contains-append_left, Contains-append_right, Contains-append_cases, Contains-get_or}
use Rattle.mc_tree.specs.declared.place.Place.{Place}
use Rattle.mc_prog.specs.declared.program.CodeInfo.{CodeInfo}
use Rattle.mc_prog.specs.declared.program.Node.{Node}
use Rattle.mc_rules.specs.declared.call.Call.{Call}
use Rattle.mc_rules.specs.declared.call.Called.{Called}
use Rattle.mc_rules.specs.declared.call.Called.TheVariants as called
use Rattle.mc_rules.specs.Calls.{HasCall}
use Rattle.mc_rules.specs.Following.{IsReached, at_once, through, is_unmarked, marked_by, body_at, entered, HasCallOf}
use Rattle.mc_rules.specs.Gathering.{Adds}
use Rattle.mc_rules.proofs.AddLaws.{contains-none}
use Rattle.mc_rules.proofs.Marks.{unmarked, fewer-by-mark, no-more-by-mark, mark-cases, mark-stays, mark-here, no-marks}

abbrev pub calls_procedure : Place → ℕ → Call
calls_procedure place number = record { place = place; called = called.Procedure number }

-- what is so when so many of the calls have been looked at
pub record Follows (nodes : List Node) (procedures : List CodeInfo) (first : List Call) (marks : List Bool) (next : ℕ) (found : List Call) : Type 0 where
  pub as_many : length marks ≡ length procedures
  pub inside : next ≤ length found
  pub kept : (call : Call) → Contains first call → Contains found call
  pub sound : (call : Call) → Contains found call → IsReached nodes procedures first call
  -- the calls of each procedure with a mark are there
  pub gone_through : (number : ℕ) (code : CodeInfo) (call : Call) → slice_get marks number ≡ Some true → slice_get procedures number ≡ Some code
      → HasCall nodes code.body call → Contains found call
  -- each procedure that a call so far calls has a mark
  pub looked_at : (place : Place) (number : ℕ) (code : CodeInfo) → Contains (take next found) (calls_procedure place number) → slice_get procedures number ≡ Some code
      → slice_get marks number ≡ Some true

-- before the first
pub follows-first : (nodes : List Node) (procedures : List CodeInfo) (first : List Call) (n : ℕ) → n ≡ length procedures → length (replicate n false) ≡ n
    → Follows nodes procedures first (replicate n false) 0 first
follows-first nodes procedures first n e len = record {
  as_many = len ∙ e;
  inside = omega arith;
  kept = λ call h. h;
  sound = λ call h. at_once call h;
  gone_through = λ number code call marked is has. absurd (no-marks n number marked);
  looked_at = λ place number code h is. absurd (contains-none (calls_procedure place number) h);
}

-- behind the last
pub all-reached : (nodes : List Node) (procedures : List CodeInfo) (first : List Call) (marks : List Bool) (next : ℕ) (found : List Call)
    → Follows nodes procedures first marks next found → length found ≤ next → (call : Call) → IsReached nodes procedures first call → Contains found call
all-reached nodes procedures first marks next found f end call (at_once one h) = f.kept one h
all-reached nodes procedures first marks next found f end call (through place number code one reached is has) =
    f.gone_through number code one
    (f.looked_at place number code
    (subst (λ (l : List Call). Contains l (calls_procedure place number)) (sym (take_all next found end))
    (all-reached nodes procedures first marks next found f end (calls_procedure place number) reached))
    is)
    is has

-- a procedure that is entered

chosen : (b : Bool) (o : Option ℕ) (body : ℕ) → (if b then o else None) ≡ Some body → (b ≡ true) × (o ≡ Some body)
chosen true o body e = (refl, e)
chosen false o body e = absurd (none-some body e)

record IsBody (procedures : List CodeInfo) (number body : ℕ) : Type 0 where
  pub code : CodeInfo
  pub is : slice_get procedures number ≡ Some code
  pub body_is : code.body ≡ body

body-in : (procedures : List CodeInfo) (number body : ℕ) (o : Option CodeInfo) → slice_get procedures number ≡ o → option_map (λ (c : CodeInfo). c.body) o ≡ Some body → IsBody procedures number body
body-in procedures number body None is e = absurd (none-some body e)
body-in procedures number body (Some code) is e = record { code = code; is = is; body_is = same_Some code.body body e }

-- a call in what is entered is reached
new-sound : (nodes : List Node) (procedures : List CodeInfo) (first : List Call) (marks : List Bool) (place : Place) (what : Called) (o : Option ℕ) (call : Call)
    → entered procedures marks what ≡ o → IsReached nodes procedures first (record { place = place; called = what }) → HasCallOf nodes o call → IsReached nodes procedures first call
new-sound nodes procedures first marks place (called.Procedure number) None call e reached has = absurd has
new-sound nodes procedures first marks place (called.Procedure number) (Some body) call e reached has =
    let b : IsBody procedures number body = body-in procedures number body (slice_get procedures number) refl (chosen (is_unmarked marks number) (body_at procedures number) body e).1 in
    through place number b.code call reached b.is (subst (λ (k : ℕ). HasCall nodes k call) (sym b.body_is) has)
new-sound nodes procedures first marks place other None call e reached has = absurd has
new-sound nodes procedures first marks place other (Some body) call e reached has = absurd (none-some body e)

-- the calls of a procedure with a mark are there, or have been put there
new-marked : (nodes : List Node) (procedures : List CodeInfo) (marks : List Bool) (what : Called) (number : ℕ) (code : CodeInfo) (call : Call)
    → slice_get (marked_by marks what) number ≡ Some true → slice_get procedures number ≡ Some code → HasCall nodes code.body call
    → (slice_get marks number ≡ Some true) ⊎ HasCallOf nodes (entered procedures marks what) call
new-marked nodes procedures marks (called.Procedure k) number code call marked is has =
    ⊎_elim (λ l. inl l)
    (λ r. inr (subst (λ (o : Option ℕ). HasCallOf nodes o call)
    (sym (ap (λ (b : Bool). if b then body_at procedures k else None) r.1 ∙ ap (λ (o : Option CodeInfo). option_map (λ (c : CodeInfo). c.body) o) (subst (λ (j : ℕ). slice_get procedures j ≡ Some code) r.0 is)))
    has))
    (mark-cases marks k number marked)
new-marked nodes procedures marks other number code call marked is has = inl marked

marks-stay : (marks : List Bool) (what : Called) (number : ℕ) → slice_get marks number ≡ Some true → slice_get (marked_by marks what) number ≡ Some true
marks-stay marks (called.Procedure k) number e = mark-stays marks k number e
marks-stay marks other number e = e

as-many : (marks : List Bool) (what : Called) → length (marked_by marks what) ≡ length marks
as-many marks (called.Procedure k) = length-set marks k true
as-many marks other = refl

-- one call more
pub follows-more : (nodes : List Node) (procedures : List CodeInfo) (first : List Call) (marks : List Bool) (next : ℕ) (found after : List Call) (call : Call)
    → Follows nodes procedures first marks next found → next < length found → get_or found next call ≡ call
    → Adds (HasCallOf nodes (entered procedures marks call.called)) found after
    → Follows nodes procedures first (marked_by marks call.called) (next + 1) after
follows-more nodes procedures first marks next found after call f inside at adds = record {
  as_many = as-many marks call.called ∙ f.as_many;
  inside = omega (arith, ap length adds.behind, length-append found adds.added);
  kept = λ c h. here c (f.kept c h);
  sound = λ c h. ⊎_elim (λ l. f.sound c l)
      (λ r. new-sound nodes procedures first marks call.place call.called (entered procedures marks call.called) c refl
      (f.sound call (subst (λ (k : Call). Contains found k) at (Contains-get_or found next call inside)))
      ((adds.are c).0 r))
      (Contains-append_cases found adds.added c (subst (λ (l : List Call). Contains l c) adds.behind h));
  gone_through = λ number code c marked is has. ⊎_elim (λ l. here c (f.gone_through number code c l is has))
      (λ r. subst (λ (l : List Call). Contains l c) (sym adds.behind) (Contains-append_right found adds.added c ((adds.are c).1 r)))
      (new-marked nodes procedures marks call.called number code c marked is has);
  looked_at = λ place number code h is. ⊎_elim (λ l. marks-stay marks call.called number (f.looked_at place number code l is))
      (λ (r : call ≡ calls_procedure place number). subst (λ (k : Call). slice_get (marked_by marks k.called) number ≡ Some true) (sym r)
      (mark-here marks number (omega (arith, f.as_many, slice_get_within procedures number code is))))
      (Contains-push_cases (take next found) call (calls_procedure place number) (subst (λ (l : List Call). Contains l (calls_procedure place number)) front h));
}
  where
    here : (c : Call) → Contains found c → Contains after c
    here c h = subst (λ (l : List Call). Contains l c) (sym adds.behind) (Contains-append_left found adds.added c h)

    front : take (next + 1) after ≡ take next found ++ (call ∷ [])
    front = ap (λ (l : List Call). take (next + 1) l) adds.behind
        ∙ take-append-le (next + 1) found adds.added (omega (arith, inside))
        ∙ take_more found next call inside
        ∙ ap (λ (k : Call). take next found ++ (k ∷ [])) at

-- what is left to do

none-added : (nodes : List Node) (found after : List Call) → Adds (HasCallOf nodes None) found after → after ≡ found
none-added nodes found after h = empty h.added (λ c m. (h.are c).0 m) h.behind
  where
    empty : (added : List Call) → ((c : Call) → Contains added c → ⊥) → after ≡ found ++ added → after ≡ found
    empty [] never e = e ∙ append-nil found
    empty (c ∷ added) never e = absurd (never c (0, omega arith, refl))

marks-no-more : (marks : List Bool) (what : Called) → unmarked (marked_by marks what) ≤ unmarked marks
marks-no-more marks (called.Procedure k) = no-more-by-mark marks k
marks-no-more marks other = omega arith

marks-fewer : (procedures : List CodeInfo) (marks : List Bool) (what : Called) (body : ℕ) → entered procedures marks what ≡ Some body → unmarked (marked_by marks what) + 1 ≡ unmarked marks
marks-fewer procedures marks (called.Procedure k) body e = fewer-by-mark marks k (chosen (is_unmarked marks k) (body_at procedures k) body e).0
marks-fewer procedures marks other body e = absurd (none-some body e)

pub less-left : (nodes : List Node) (procedures : List CodeInfo) (marks : List Bool) (what : Called) (found after : List Call) (next : ℕ) (o : Option ℕ)
    → entered procedures marks what ≡ o → next < length found → length after < 2 ^ 64 → Adds (HasCallOf nodes o) found after
    → unmarked (marked_by marks what) * 2 ^ 64 + (length after - (next + 1)) < unmarked marks * 2 ^ 64 + (length found - next)
less-left nodes procedures marks what found after next None e inside fits adds =
    omega (arith, inside, ap length (none-added nodes found after adds), marks-no-more marks what)
less-left nodes procedures marks what found after next (Some body) e inside fits adds =
    omega (arith, inside, fits, marks-fewer procedures marks what body e)
