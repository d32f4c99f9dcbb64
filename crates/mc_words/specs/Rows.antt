-- The values that a parse has found for an argument.
use Rattle.std.proofs.Common.{◌≡◌, Bool, true, false, List, [], ◌∷◌, ◌++◌, Some, None, refl, sym, ◌∙◌, subst}
use Rattle.std.specs.Prelude.{unwrap_or}
use Rattle.std.specs.Str.{bytes_eq}
use Rattle.std.proofs.lemmas.Bool.{false≢true}
use Rattle.std.proofs.lemmas.Slice.Eq.{bytes_eq-Decides}
use Rattle.clap.specs.declared.builder.value_parser.Reading.{Reading}
use Rattle.clap.specs.declared.parser.matches.ValueSource.{ValueSource}
use Rattle.clap.specs.Walk.{Row, Text, all_of, at_row, more_values, with_values}

-- the values of an id, none where it has no row
abbrev pub values_in : Text → List Row → List Text
values_in id rows = unwrap_or (all_of id rows) []

module _ (id : Text) (how : Reading) (source : ValueSource) (values : List Text) where
  abbrev fresh : List Row
  fresh = record { id = id; values = values; count = None; source = Some source; reading = how } ∷ []

  -- the rows of this id get the values
  pub values_in-same : bytes_eq id id ≡ true → (rows : List Row) → values_in id (with_values id how source values rows) ≡ values_in id rows ++ values
  values_in-same own [] = rw own refl
  values_in-same own (r ∷ rows) = go (values_in-same own rows) (bytes_eq r.id id) refl
    where
      go : values_in id (with_values id how source values rows) ≡ values_in id rows ++ values → (b : Bool) → bytes_eq r.id id ≡ b → values_in id (at_row id (more_values source values) fresh (r ∷ rows)) ≡ values_in id (r ∷ rows) ++ values
      go rest true e = rw (e, e) refl
      go rest false e = rw (e, e) rest

  -- the rows of another id stay
  pub values_in-other : (other : Text) → bytes_eq id other ≡ false → (rows : List Row) → values_in other (with_values id how source values rows) ≡ values_in other rows
  values_in-other other apart [] = rw apart refl
  values_in-other other apart (r ∷ rows) = go (values_in-other other apart rows) (bytes_eq r.id id) (bytes_eq r.id other) refl refl
    where
      go : values_in other (with_values id how source values rows) ≡ values_in other rows → (b d : Bool) → bytes_eq r.id id ≡ b → bytes_eq r.id other ≡ d → values_in other (at_row id (more_values source values) fresh (r ∷ rows)) ≡ values_in other (r ∷ rows)
      go rest true true e f =
          let here : r.id ≡ id = (bytes_eq-Decides r.id id).0 e in
          absurd (false≢true (sym apart ∙ subst (λ (t : Text). bytes_eq t other ≡ true) here f))
      go rest true false e f = rw (e, f) refl
      go rest false true e f = rw (e, f) refl
      go rest false false e f = rw (e, f) rest
