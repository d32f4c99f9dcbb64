-- A source is one of three: accepted, too large, or one with a first fault; and it has one program, or one first fault.
use Rattle.std.specs.Prelude.{◌≡◌, ℕ, List, length}
use Rattle.std.proofs.Common.{ap, sym, ◌∙◌, subst, arith}
use Rattle.mc_tree.specs.declared.fault.Fault.{Fault}
use Rattle.mc_tree.specs.declared.place.Place.{Place}
use Rattle.mc_tree.specs.declared.token.Token.{Token}
use Rattle.mc_tree.specs.declared.tree.Tree.{Tree}
use Rattle.mc_tree.specs.Programs.{IsTreeOf}
use Rattle.mc_tree.specs.Laws.{Spells-unique, HasFirstFault-unique, Spells-no_fault}
use Rattle.mc_tree.specs.Unique.{tokens_of-one_tree}
use Rattle.mc_parse.specs.declared.fault.ParseFault.TheVariants.{Unexpected, TooDeep}
use Rattle.mc_parse.specs.Verdicts.{one_fault, no_fault}
use Rattle.mc_prog.specs.declared.scoped.Naming.{Naming}
use Rattle.mc_prog.specs.First.{IsFirst}
use Rattle.mc_prog.specs.FirstLaws.{one_first}
use Rattle.mc_prog.specs.Scopes.{IsScopeFault}
use Rattle.mc_prog.specs.Namings.{AreNamingsOf}
use Rattle.mc_prog.specs.NamingLaws.{one_naming}
use Rattle.mc_prog.specs.Resolved.{Resolved, IsTypeFault, program_of}
use Rattle.mc_rules.specs.RuleFaults.{IsRuleFault}
use Rattle.mc_compile.specs.Accepted.{IsParsed, IsGrammarFault, unexpected, too_deep, IsTextFault, lexical, grammar, IsTyped, IsTreeFault, scope, type, rule, IsFaultlessTree, IsFaultless, IsAccepted, IsTooLarge, IsSourceFault, of_text, of_tree}

-- A source has one tree.
one_read : (source : List ℕ) (tree other : Tree) (n m : ℕ) (h : IsParsed source tree n) (k : IsParsed source other m) → h.read ≡ k.read
one_read source tree other n m h k = (Spells-unique h.read k.read h.end k.end source h.spelled k.spelled).0

pub one_tree : (source : List ℕ) (tree other : Tree) (n m : ℕ) → IsParsed source tree n → IsParsed source other m → (tree ≡ other) × (n ≡ m)
one_tree source tree other n m h k =
    let same = one_read source tree other n m h k in (
      tokens_of-one_tree tree other (h.parsed.tokens_are ∙ same ∙ sym k.parsed.tokens_are),
      h.count ∙ ap length same ∙ sym k.count,
    )

-- Where it has one, its text has no fault.
grammar_fault : (end : Place) (tokens : List Token) (tree : Tree) (fault : Fault) → IsTreeOf tree tokens → IsGrammarFault end tokens fault → ⊥
grammar_fault end tokens tree fault t (unexpected e w) = no_fault end tokens tree (Unexpected fault.place) t w
grammar_fault end tokens tree fault t (too_deep e w) = no_fault end tokens tree (TooDeep fault.place) t w

pub no_text_fault : (source : List ℕ) (tree : Tree) (n : ℕ) (fault : Fault) → IsParsed source tree n → IsTextFault source fault → ⊥
no_text_fault source tree n fault h (lexical f) = Spells-no_fault h.read h.end fault.code fault.place source h.spelled f
no_text_fault source tree n fault h (grammar tokens end spelled f) =
    let same = (Spells-unique h.read tokens h.end end source h.spelled spelled).0 in
    grammar_fault end tokens tree fault (subst (λ (l : List Token). IsTreeOf tree l) same h.parsed) f

-- A text has one first fault.
one_grammar_fault : (end : Place) (tokens : List Token) (f g : Fault) → IsGrammarFault end tokens f → IsGrammarFault end tokens g → f ≡ g
one_grammar_fault end tokens f g (unexpected a h) (unexpected b k) =
    let same = one_fault end tokens (Unexpected f.place) (Unexpected g.place) h k in
    let places : f.place ≡ g.place = cc in
    let codes_ = a ∙ sym b in
    λ i. record { code = codes_ i; place = places i }
one_grammar_fault end tokens f g (unexpected a h) (too_deep b k) = let same = one_fault end tokens (Unexpected f.place) (TooDeep g.place) h k in absurd (cc same)
one_grammar_fault end tokens f g (too_deep a h) (unexpected b k) = let same = one_fault end tokens (TooDeep f.place) (Unexpected g.place) h k in absurd (cc same)
one_grammar_fault end tokens f g (too_deep a h) (too_deep b k) =
    let same = one_fault end tokens (TooDeep f.place) (TooDeep g.place) h k in
    let places : f.place ≡ g.place = cc in
    let codes_ = a ∙ sym b in
    λ i. record { code = codes_ i; place = places i }

one_text_fault : (source : List ℕ) (f g : Fault) → IsTextFault source f → IsTextFault source g → f ≡ g
one_text_fault source f g (lexical h) (lexical k) = let same = HasFirstFault-unique f.code g.code f.place g.place source h k in λ i. record { code = same.0 i; place = same.1 i }
one_text_fault source f g (lexical h) (grammar tokens end spelled k) = absurd (Spells-no_fault tokens end f.code f.place source spelled h)
one_text_fault source f g (grammar tokens end spelled h) (lexical k) = absurd (Spells-no_fault tokens end g.code g.place source spelled k)
one_text_fault source f g (grammar tokens end spelled h) (grammar others last also k) =
    let same = Spells-unique others tokens last end source also spelled in
    one_grammar_fault end tokens f g h (subst (λ (l : List Token). IsGrammarFault end l g) same.0 (subst (λ (e : Place). IsGrammarFault e others g) same.1 k))

-- A tree has one program.
one_typed : (tree : Tree) (n : ℕ) (p q : Resolved) → IsTyped tree n p → IsTyped tree n q → p ≡ q
one_typed tree n p q h k =
    h.program_is ∙ ap (λ (names : List Naming). program_of tree names n) (one_naming tree h.names k.names h.names_are k.names_are) ∙ sym k.program_is

-- Where its types have no fault with one list of its names, they have none with any.
typed_no_fault : (tree : Tree) (names : List Naming) (n : ℕ) (p : Resolved) (fault : Fault) → IsTyped tree n p → AreNamingsOf tree names → IsTypeFault tree names fault → ⊥
typed_no_fault tree names n p fault h are f =
    h.no_type_fault fault (subst (λ (l : List Naming). IsTypeFault tree l fault) (one_naming tree names h.names are h.names_are) f)

-- A tree without faults has no first fault.
no_tree_fault : (tree : Tree) (n : ℕ) (p : Resolved) (fault : Fault) → IsFaultlessTree tree n p → IsTreeFault tree n fault → ⊥
no_tree_fault tree n p fault h (scope f) = h.typed.no_scope_fault fault f.is_fault
no_tree_fault tree n p fault h (type names none are f) = typed_no_fault tree names n p fault h.typed are f.is_fault
no_tree_fault tree n p fault h (rule q typed f) = h.no_rule_fault fault (subst (λ (r : Resolved). IsRuleFault r fault) (one_typed tree n q p typed h.typed) f.is_fault)

-- Another has one.
one_tree_fault : (tree : Tree) (n : ℕ) (f g : Fault) → IsTreeFault tree n f → IsTreeFault tree n g → f ≡ g
one_tree_fault tree n f g (scope h) (scope k) = one_first (IsScopeFault tree) f g h k
one_tree_fault tree n f g (scope h) (type names none are k) = absurd (none f h.is_fault)
one_tree_fault tree n f g (scope h) (rule p typed k) = absurd (typed.no_scope_fault f h.is_fault)
one_tree_fault tree n f g (type names none are h) (scope k) = absurd (none g k.is_fault)
one_tree_fault tree n f g (type names none are h) (type others also too k) =
    one_first (IsTypeFault tree names) f g h (subst (λ (l : List Naming). IsFirst (IsTypeFault tree l) g) (one_naming tree others names too are) k)
one_tree_fault tree n f g (type names none are h) (rule p typed k) = absurd (typed_no_fault tree names n p f typed are h.is_fault)
one_tree_fault tree n f g (rule p typed h) (scope k) = absurd (typed.no_scope_fault g k.is_fault)
one_tree_fault tree n f g (rule p typed h) (type names none are k) = absurd (typed_no_fault tree names n p g typed are k.is_fault)
one_tree_fault tree n f g (rule p typed h) (rule q also k) =
    one_first (IsRuleFault p) f g h (subst (λ (r : Resolved). IsFirst (IsRuleFault r) g) (one_typed tree n q p also typed) k)

-- of one of two trees of a source
as_other : (source : List ℕ) (tree other : Tree) (n m : ℕ) (P : Tree → ℕ → Type 0) → IsParsed source tree n → IsParsed source other m → P tree n → P other m
as_other source tree other n m P h k x =
    let same = one_tree source tree other n m h k in
    subst (λ (t : Tree). P t m) same.0 (subst (λ (c : ℕ). P tree c) same.1 x)

-- A source has one first fault,
pub one_source_fault : (source : List ℕ) (f g : Fault) → IsSourceFault source f → IsSourceFault source g → f ≡ g
one_source_fault source f g (of_text h) (of_text k) = one_text_fault source f g h k
one_source_fault source f g (of_text h) (of_tree tree n parsed k) = absurd (no_text_fault source tree n f parsed h)
one_source_fault source f g (of_tree tree n parsed h) (of_text k) = absurd (no_text_fault source tree n g parsed k)
one_source_fault source f g (of_tree tree n parsed h) (of_tree other m also k) =
    one_tree_fault tree n f g h (as_other source other tree m n (λ (t : Tree) (c : ℕ). IsTreeFault t c g) also parsed k)

-- or none, and one program.
pub faultless_no_fault : (source : List ℕ) (p : Resolved) (fault : Fault) → IsFaultless source p → IsSourceFault source fault → ⊥
faultless_no_fault source p fault h (of_text f) = no_text_fault source h.tree h.tokens fault h.parsed f
faultless_no_fault source p fault h (of_tree tree n parsed f) =
    no_tree_fault h.tree h.tokens p fault h.faultless (as_other source tree h.tree n h.tokens (λ (t : Tree) (c : ℕ). IsTreeFault t c fault) parsed h.parsed f)

pub one_program : (source : List ℕ) (p q : Resolved) → IsFaultless source p → IsFaultless source q → p ≡ q
one_program source p q h k =
    one_typed k.tree k.tokens p q (as_other source h.tree k.tree h.tokens k.tokens (λ (t : Tree) (c : ℕ). IsTyped t c p) h.parsed k.parsed h.faultless.typed) k.faultless.typed

-- An accepted source is not too large.
pub accepted_not_large : (source : List ℕ) (p : Resolved) → IsAccepted source p → IsTooLarge source → ⊥
accepted_not_large source p a l =
    let one = one_program source l.program p l.faultless a.faultless in
    absurd (omega (arith, ap (λ (r : Resolved). r.size) one, l.large, a.small))
