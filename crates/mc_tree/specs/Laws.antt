-- The laws of the lexical structure: a source has at most one list of tokens with one end, or one first fault.
use Rattle.std.specs.Prelude.{◌≡◌, ℕ, List, []}
use Rattle.std.proofs.Common.{sym, subst}
use Rattle.mc_tree.specs.declared.place.Place.{Place}
use Rattle.mc_tree.specs.declared.token.Token.{Token}
use Rattle.mc_tree.specs.declared.fault.Code.{Code}
use Rattle.mc_tree.specs.Sources.{first_place, place_after, BeginsFault, Spells, HasFirstFault}
use Rattle.mc_tree.specs.SourceLaws.{SameReading, reads_unique, reads_place}
use Rattle.mc_tree.specs.FaultLaws.{stops_at_end, fault_stops, fault_unique, fault_not_at_end}

-- A source has at most one list of tokens, and with it one end.
pub Spells-unique : (tokens others : List Token) (end last : Place) (source : List ℕ) → Spells tokens end source → Spells others last source → (tokens ≡ others) × (end ≡ last)
Spells-unique tokens others end last source h g =
    let same : SameReading tokens others end last [] [] = reads_unique tokens others first_place source end last [] [] h.reads g.reads stops_at_end stops_at_end in
    (same.same_tokens, same.same_ends)

-- The end is the place after the last byte of the source.
pub Spells-end : (tokens : List Token) (end : Place) (source : List ℕ) → Spells tokens end source → end ≡ place_after first_place source
Spells-end tokens end source h = sym (reads_place tokens first_place source end [] h.reads)

-- A source has at most one first fault.
pub HasFirstFault-unique : (code other : Code) (place another : Place) (source : List ℕ) → HasFirstFault code place source → HasFirstFault other another source → (code ≡ other) × (place ≡ another)
HasFirstFault-unique code other place another source h g =
    let same : SameReading h.tokens g.tokens place another h.left g.left = reads_unique h.tokens g.tokens first_place source place another h.left g.left h.reads g.reads (fault_stops code h.left h.fault) (fault_stops other g.left g.fault) in
    (fault_unique code other g.left (subst (λ (l : List ℕ). BeginsFault code l) same.same_rests h.fault) g.fault, same.same_ends)

-- A source with a first fault is no list of tokens.
pub Spells-no_fault : (tokens : List Token) (end : Place) (code : Code) (place : Place) (source : List ℕ) → Spells tokens end source → HasFirstFault code place source → ⊥
Spells-no_fault tokens end code place source h g =
    let same : SameReading tokens g.tokens end place [] g.left = reads_unique tokens g.tokens first_place source end place [] g.left h.reads g.reads stops_at_end (fault_stops code g.left g.fault) in
    fault_not_at_end code (subst (λ (l : List ℕ). BeginsFault code l) (sym same.same_rests) g.fault)
