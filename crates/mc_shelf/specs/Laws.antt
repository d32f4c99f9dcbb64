-- What follows from the words on the outside.
use Rattle.std.specs.Prelude.{◌≡◌, ℕ, List, ◌++◌, Option, Some, None, refl}
use Rattle.std.proofs.Common.{sym, ◌∙◌, ap, append_assoc}
use Rattle.mc_shelf.specs.Outside.{appended, IsPart}

-- two prints, one after the other, are a print of both texts
pub appended-append : (printed : Option (List ℕ)) (a b : List ℕ) → appended (appended printed a) b ≡ appended printed (a ++ b)
appended-append None a b = refl
appended-append (Some before) a b = ap Some (append_assoc before a b)

-- a part of a first text is a part of the whole
pub IsPart-front : {printed now : Option (List ℕ)} (a b : List ℕ) → IsPart printed a now → IsPart printed (a ++ b) now
IsPart-front a b p = record {
  front = p.front;
  rest = p.rest ++ b;
  parts = ap (λ x. x ++ b) p.parts ∙ append_assoc p.front p.rest b;
  appends = p.appends;
}

-- a whole text, and then a part of a second one
pub IsPart-behind : {printed between now : Option (List ℕ)} (a b : List ℕ) → between ≡ appended printed a → IsPart between b now → IsPart printed (a ++ b) now
IsPart-behind {printed} a b whole p = record {
  front = a ++ p.front;
  rest = p.rest;
  parts = ap (λ x. a ++ x) p.parts ∙ sym (append_assoc a p.front p.rest);
  appends = p.appends ∙ ap (λ x. appended x p.front) whole ∙ appended-append printed a p.front;
}
