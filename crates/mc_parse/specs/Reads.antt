-- What a reader says of the tokens at its front: whatever is to be read behind it, reading goes on so.
use Rattle.std.specs.Prelude.{◌≡◌, ◌≢◌, ℕ, List, ◌∷◌, Result, Err}
use Rattle.mc_tree.specs.declared.place.Place.{Place}
use Rattle.mc_tree.specs.declared.token.Token.{Token}
use Rattle.mc_tree.specs.Classes.{Class, Data}
use Rattle.mc_tree.specs.Grammar.{Phrase, Take, Sub, Stack}
use Rattle.mc_tree.specs.Phrases.{Of, Trees}
use Rattle.mc_parse.specs.declared.fault.ParseFault.{ParseFault}
use Rattle.mc_parse.specs.declared.fault.ParseFault.TheVariants.{Memory}
use Rattle.mc_parse.specs.Decode.{decode, mapped}

-- the trees of the tokens, or the first fault
unfoldable pub reading : Place → List Token → (stack : Stack) → Result (Trees stack) ParseFault
reading = decode

-- Where `ahead` is to be read, the front of the tokens is read so, and the others stand behind it.
pub record IsReadAs (end : Place) (ahead : Stack → Stack) (tokens : List Token) (put : (stack : Stack) → Trees stack → Trees (ahead stack)) (others : List Token) : Type 0 where
  pub reads : (stack : Stack) → reading end tokens (ahead stack) ≡ mapped (put stack) (reading end others stack)

-- Where `ahead` is to be read, the tokens are refused by this fault; want of memory says nothing.
pub record IsRefusedAs (end : Place) (ahead : Stack → Stack) (tokens : List Token) (fault : ParseFault) : Type 0 where
  pub refuses : fault ≢ Memory → (stack : Stack) → reading end tokens (ahead stack) ≡ Err fault

-- The phrase at the front is this tree, and the others stand behind it.
abbrev pub IsRead : Place → ℕ → (phrase : Phrase) → List Token → Of phrase → List Token → Type 0
IsRead end depth phrase tokens x others = IsReadAs end (λ (stack : Stack). Sub depth phrase ∷ stack) tokens (λ (stack : Stack) (ks : Trees stack). (x, ks)) others

-- No such phrase stands at the front, by this fault.
abbrev pub IsRefused : Place → ℕ → Phrase → List Token → ParseFault → Type 0
IsRefused end depth phrase tokens fault = IsRefusedAs end (λ (stack : Stack). Sub depth phrase ∷ stack) tokens fault

-- A token of the class stands at the front, with this, and the others behind it.
abbrev pub IsTaken : Place → (class : Class) → List Token → Data class → Place → List Token → Type 0
IsTaken end class tokens v place others = IsReadAs end (λ (stack : Stack). Take class ∷ stack) tokens (λ (stack : Stack) (ks : Trees stack). ((v, place), ks)) others

-- No such token stands at the front.
abbrev pub IsMissed : Place → Class → List Token → ParseFault → Type 0
IsMissed end class tokens fault = IsRefusedAs end (λ (stack : Stack). Take class ∷ stack) tokens fault

-- The front of a phrase was read: the rest of it stands in the others, and `join` makes the whole of the rest.
pub record IsReadUpTo (end : Place) (depth : ℕ) (phrase : Phrase) (tokens : List Token) (join : Of phrase → Of phrase) (others : List Token) : Type 0 where
  pub reads : (stack : Stack) → reading end tokens (Sub depth phrase ∷ stack) ≡ mapped (λ (q : Trees (Sub depth phrase ∷ stack)). (join q.0, q.1)) (reading end others (Sub depth phrase ∷ stack))
