-- The topmost process leaves its place.
use Rattle.std.specs.Prelude.{◌≡◌, List, [], ◌∷◌, ◌++◌, Option, Some, None, true, is_some, refl}
use Rattle.std.specs.Option.{option_to_list}
use Rattle.std.proofs.Common.{ap, ◌∙◌, sym}
use Rattle.std.proofs.lemmas.Bool.{false≢true}
use Rattle.mc_meaning.specs.declared.config.Nested.{Nested}
use Rattle.mc_meaning.specs.Actions.{lower_members, vacated, vacated_by}
use Rattle.mc_meaning.specs.Configuration.{Configuration}

lower_members-append : (members : List Nested) (m : Nested) → lower_members (members ++ (m ∷ [])) ≡ members
lower_members-append [] m = refl
lower_members-append (k ∷ []) m = refl
lower_members-append (k ∷ (l ∷ members)) m = ap (λ (others : List Nested). k ∷ others) (lower_members-append (l ∷ members) m)

vacated_by-append : (c : Configuration) (members : List Nested) (m : Nested) → vacated_by c (members ++ (m ∷ [])) ≡ record c { nest = members }
vacated_by-append c [] m = refl
vacated_by-append c (k ∷ members) m = ap (λ (nest : List Nested). record c { nest = nest }) (lower_members-append (k ∷ members) m)

pub vacated-popped : (c : Configuration) (members : List Nested) (o : Option Nested) → c.nest ≡ members ++ option_to_list o → is_some o ≡ true → ◌≡◌ {A = Configuration} (record c { nest = members }) (vacated c)
vacated-popped c members (Some m) is there = sym (ap (vacated_by c) is ∙ vacated_by-append c members m)
vacated-popped c members None is there = absurd (false≢true there)
