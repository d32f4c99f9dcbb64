-- What shows that an evaluation step is possible: a process that goes on with another rest, or a trap, changes the configuration.
use Rattle.std.specs.Prelude.{◌≡◌, ◌≢◌, ℕ, zero, suc, List, [], ◌∷◌, Option, Some, None, slice_get, slice_set, refl}
use Rattle.std.proofs.Common.{ap, ◌∙◌, sym}
use Rattle.std.proofs.lemmas.Option.{none-some}
use Rattle.mc_meaning.specs.declared.process.Item.{Item}
use Rattle.mc_meaning.specs.declared.store.Found.{Found}
use Rattle.mc_meaning.specs.Actions.{trapped}
use Rattle.mc_meaning.specs.Configuration.{Configuration, ProcessState}
use Rattle.mc_meaning.specs.Steps.{goes_on}

slice_get-set : {X : Type 0} (xs : List X) (n : ℕ) (v w : X) → slice_get xs n ≡ Some w → slice_get (slice_set xs n v) n ≡ Some v
slice_get-set [] n v w is = absurd (none-some w is)
slice_get-set (x ∷ xs) zero v w is = refl
slice_get-set (x ∷ xs) (suc n) v w is = slice_get-set xs n v w is

abbrev rest_of : Option ProcessState → List Item
rest_of None = []
rest_of (Some q) = q.rest

pub goes_on-changes : (c : Configuration) (n : ℕ) (q : ProcessState) (f : List Found) (rest : List Item) → slice_get c.processes n ≡ Some q → rest ≢ q.rest → goes_on c n q f rest ≢ c
goes_on-changes c n q f rest is other e =
    let put : slice_get (goes_on c n q f rest).processes n ≡ Some (record q { found = f; rest = rest }) = slice_get-set c.processes n _ q is in
    other (ap rest_of (sym put ∙ ap (λ (d : Configuration). slice_get d.processes n) e ∙ is))

pub trapped-changes : (c : Configuration) (k : ℕ) → c.trap ≡ None → trapped c k ≢ c
trapped-changes c k none e = none-some k (sym (ap (λ (d : Configuration). d.trap) e ∙ none))
