-- When a token of a class stands at the front.
use Rattle.std.specs.Prelude.{ℕ, ◌≡◌, ◌≢◌, List, [], ◌∷◌, Option, Some, None, refl}
use Rattle.std.proofs.Common.{ap, ◌∙◌, sym, subst}
use Rattle.mc_tree.specs.declared.place.Place.{Place}
use Rattle.mc_tree.specs.declared.token.Token.{Token}
use Rattle.mc_tree.specs.declared.token.Kind.{Kind}
use Rattle.mc_tree.specs.declared.token.Kind.TheVariants.{Reserved as ReservedKind, Name, Number, Char, Text, Symbol as SymbolKind}
use Rattle.mc_tree.specs.declared.token.Reserved.{Reserved}
use Rattle.mc_tree.specs.declared.token.Symbol.{Symbol}
use Rattle.mc_tree.specs.Classes.{Class, ReservedClass, NameClass, NumberClass, CharacterClass, TextClass, SymbolClass, class_of, class_of-kind_of, Data, data_of, kind_of, kind_of-data_of}
use Rattle.mc_tree.specs.Grammar.{Take, Stack}
use Rattle.mc_parse.specs.declared.fault.ParseFault.TheVariants.{Unexpected}
use Rattle.mc_parse.specs.Decode.{data_as, fed_token, decided, decode}
use Rattle.mc_parse.specs.Decoding.{data_as-kind_of, kind_of-data_as}
use Rattle.mc_parse.specs.Heads.{place_of, HasFirst, HasOther, IsFirst}
use Rattle.mc_parse.specs.Reads.{reading, IsTaken, IsMissed}

pub takes : (end : Place) (class : Class) (v : Data class) (place : Place) (others : List Token) → IsTaken end class (record { kind = kind_of class v; place = place } ∷ others) v place others
unfolding reading
takes end class v place others = record {
  reads = λ stack.
      let t : Token = record { kind = kind_of class v; place = place } in
      ap (λ (o : Option (Data class)). decided t (Take class ∷ stack) (fed_token class stack place o) (λ (left : Stack). decode end others left)) (data_as-kind_of class v);
}

pub misses_end : (end : Place) (class : Class) → IsMissed end class [] (Unexpected end)
unfolding reading
misses_end end class = record { refuses = λ h stack. refl }

no_data : (class : Class) (kind : Kind) → class_of kind ≢ class → (o : Option (Data class)) → data_as class kind ≡ o → o ≡ None
no_data class kind differ None e = refl
no_data class kind differ (Some v) e = absurd (differ (ap class_of (sym (kind_of-data_as class kind v e)) ∙ class_of-kind_of class v))

pub misses_other : (end : Place) (class : Class) (t : Token) (others : List Token) → class_of t.kind ≢ class → IsMissed end class (t ∷ others) (Unexpected t.place)
unfolding reading
misses_other end class t others differ = record {
  refuses = λ h stack.
      ap (λ (o : Option (Data class)). decided t (Take class ∷ stack) (fed_token class stack t.place o) (λ (left : Stack). decode end others left)) (no_data class t.kind differ (data_as class t.kind) refl);
}

-- Any other token, or none, is no token of the class.
pub missed : (end : Place) (class : Class) (ts : List Token) → HasOther class ts → IsMissed end class ts (Unexpected (place_of end ts))
missed end class [] h = misses_end end class
missed end class (t ∷ ts) h = misses_other end class t ts h

symbol_kind : (kind : Kind) (symbol : Symbol) → class_of kind ≡ SymbolClass symbol → kind ≡ SymbolKind symbol
symbol_kind (SymbolKind found) symbol e = cc
symbol_kind (ReservedKind word) symbol e = cc
symbol_kind (Name text) symbol e = cc
symbol_kind (Number value) symbol e = cc
symbol_kind (Char value) symbol e = cc
symbol_kind (Text text) symbol e = cc

word_kind : (kind : Kind) (word : Reserved) → class_of kind ≡ ReservedClass word → kind ≡ ReservedKind word
word_kind (ReservedKind found) word e = cc
word_kind (SymbolKind symbol) word e = cc
word_kind (Name text) word e = cc
word_kind (Number value) word e = cc
word_kind (Char value) word e = cc
word_kind (Text text) word e = cc

pub taken_here : (end : Place) (class : Class) (v : Data class) (tokens : List Token) (t : Token) (others : List Token) → tokens ≡ t ∷ others → t.kind ≡ kind_of class v → IsTaken end class tokens v t.place others
taken_here end class v tokens t others e k =
    subst (λ (z : List Token). IsTaken end class z v t.place others)
    (ap (λ (kind : Kind). record { kind = kind; place = t.place } ∷ others) (sym k) ∙ sym e) (takes end class v t.place others)

first_class : (class : Class) (tokens : List Token) (t : Token) (others : List Token) → tokens ≡ t ∷ others → HasFirst class tokens → class_of t.kind ≡ class
first_class class tokens t others e h = subst (HasFirst class) e h

-- A symbol, a word or a name that stands at the front is taken.
pub mark_taken : (end : Place) (symbol : Symbol) (tokens : List Token) (t : Token) (others : List Token) → tokens ≡ t ∷ others → HasFirst (SymbolClass symbol) tokens → IsTaken end (SymbolClass symbol) tokens tt t.place others
mark_taken end symbol tokens t others e h = taken_here end (SymbolClass symbol) tt tokens t others e (symbol_kind t.kind symbol (first_class (SymbolClass symbol) tokens t others e h))

pub word_taken : (end : Place) (word : Reserved) (tokens : List Token) (t : Token) (others : List Token) → tokens ≡ t ∷ others → HasFirst (ReservedClass word) tokens → IsTaken end (ReservedClass word) tokens tt t.place others
word_taken end word tokens t others e h = taken_here end (ReservedClass word) tt tokens t others e (word_kind t.kind word (first_class (ReservedClass word) tokens t others e h))

pub name_taken : (end : Place) (text : List ℕ) (tokens : List Token) (t : Token) (others : List Token) → tokens ≡ t ∷ others → t.kind ≡ Name text → IsTaken end NameClass tokens text t.place others
name_taken end text tokens t others e k = taken_here end NameClass text tokens t others e k

pub missed_first : (end : Place) (class : Class) (tokens : List Token) (t : Token) (others : List Token) → tokens ≡ t ∷ others → class_of t.kind ≢ class → IsMissed end class tokens (Unexpected t.place)
missed_first end class tokens t others e differ = subst (λ (z : List Token). IsMissed end class z (Unexpected t.place)) (sym e) (misses_other end class t others differ)

pub no_name : (kind : Kind) → ((text : List ℕ) → kind ≡ Name text → ⊥) → class_of kind ≢ NameClass
no_name (Name text) n e = n text refl
no_name (ReservedKind word) n e = cc
no_name (SymbolKind symbol) n e = cc
no_name (Number value) n e = cc
no_name (Char value) n e = cc
no_name (Text text) n e = cc

pub token_taken : (end : Place) (kind : Kind) (tokens : List Token) (t : Token) (others : List Token) → tokens ≡ t ∷ others → IsFirst kind tokens → IsTaken end (class_of kind) tokens (data_of kind) t.place others
token_taken end kind tokens t others e h = taken_here end (class_of kind) (data_of kind) tokens t others e (subst (IsFirst kind) e h ∙ sym (kind_of-data_of kind))

pub no_number : (kind : Kind) → ((value : ℕ) → kind ≡ Number value → ⊥) → class_of kind ≢ NumberClass
no_number (Number value) n e = n value refl
no_number (ReservedKind word) n e = cc
no_number (SymbolKind symbol) n e = cc
no_number (Name text) n e = cc
no_number (Char value) n e = cc
no_number (Text text) n e = cc

pub no_character : (kind : Kind) → ((value : ℕ) → kind ≡ Char value → ⊥) → class_of kind ≢ CharacterClass
no_character (Char value) n e = n value refl
no_character (ReservedKind word) n e = cc
no_character (SymbolKind symbol) n e = cc
no_character (Name text) n e = cc
no_character (Number value) n e = cc
no_character (Text text) n e = cc

pub no_text : (kind : Kind) → ((text : List ℕ) → kind ≡ Text text → ⊥) → class_of kind ≢ TextClass
no_text (Text text) n e = n text refl
no_text (ReservedKind word) n e = cc
no_text (SymbolKind symbol) n e = cc
no_text (Name text) n e = cc
no_text (Number value) n e = cc
no_text (Char value) n e = cc

pub other_first : (class : Class) (tokens : List Token) (t : Token) (others : List Token) → tokens ≡ t ∷ others → class_of t.kind ≢ class → HasOther class tokens
other_first class tokens t others e n = subst (HasOther class) (sym e) n

pub first_here : (class : Class) (tokens : List Token) (t : Token) (others : List Token) → tokens ≡ t ∷ others → class_of t.kind ≡ class → HasFirst class tokens
first_here class tokens t others e h = subst (HasFirst class) (sym e) h

pub first_place : (end : Place) (tokens : List Token) (t : Token) (others : List Token) → tokens ≡ t ∷ others → t.place ≡ place_of end tokens
first_place end tokens t others e = ap (place_of end) (sym e)
