-- Which sources are accepted, and the first fault of one that is not.
use Rattle.std.specs.Prelude.{◌≡◌, ◌≤◌, ◌<◌, ℕ, List, Option, Some, None, length}
use Rattle.mc_tree.specs.declared.fault.Code.TheVariants as code
use Rattle.mc_tree.specs.declared.fault.Fault.{Fault}
use Rattle.mc_tree.specs.declared.place.Place.{Place}
use Rattle.mc_tree.specs.declared.token.Token.{Token}
use Rattle.mc_tree.specs.declared.tree.Tree.{Tree}
use Rattle.mc_tree.specs.Sources.{Spells, HasFirstFault}
use Rattle.mc_tree.specs.Programs.{IsTreeOf, IsTooDeepAt, IsWrongAt}
use Rattle.mc_prog.specs.declared.scoped.Naming.{Naming}
use Rattle.mc_prog.specs.First.{IsFirst}
use Rattle.mc_prog.specs.Scopes.{IsScopeFault}
use Rattle.mc_prog.specs.Namings.{AreNamingsOf}
use Rattle.mc_prog.specs.Resolved.{Resolved, IsTypeFault, program_of}
use Rattle.mc_resolve.specs.Refusals.{HasNoScopeFault}
use Rattle.mc_types.specs.TypeRefusals.{HasNoTypeFault}
use Rattle.mc_rules.specs.RuleFaults.{IsRuleFault, HasNoRuleFault}
use Rattle.mc_straight.specs.Form.{Straight, IsStraight, IsStraightSource}
use Rattle.mc_compile.specs.declared.refusal.Refusal.{Refusal}
use Rattle.mc_compile.specs.declared.refusal.Refusal.TheVariants.{Source, TooLarge, NotYet, Memory}

-- The text of a source

-- the source is so many tokens, and they are those of the tree
pub record IsParsed (source : List ℕ) (tree : Tree) (tokens : ℕ) : Type 0 where
  pub read : List Token
  pub end : Place
  pub spelled : Spells read end source
  pub parsed : IsTreeOf tree read
  pub count : tokens ≡ length read

-- the first fault of tokens whose end has this place
pub data IsGrammarFault (end : Place) (tokens : List Token) (fault : Fault) : Type 0 where
  unexpected : fault.code ≡ code.Unexpected → IsWrongAt end fault.place tokens → IsGrammarFault end tokens fault
  too_deep : fault.code ≡ code.TooDeep → IsTooDeepAt fault.place tokens → IsGrammarFault end tokens fault

-- the first fault of the text: a lexical one, or one of the grammar of its tokens
pub data IsTextFault (source : List ℕ) (fault : Fault) : Type 0 where
  lexical : HasFirstFault fault.code fault.place source → IsTextFault source fault
  grammar : (tokens : List Token) (end : Place) → Spells tokens end source → IsGrammarFault end tokens fault → IsTextFault source fault

-- The tree of a source

-- a tree of so many tokens without faults of scopes and types, and its program
pub record IsTyped (tree : Tree) (tokens : ℕ) (program : Resolved) : Type 0 where
  pub names : List Naming
  pub no_scope_fault : HasNoScopeFault tree
  pub names_are : AreNamingsOf tree names
  pub no_type_fault : HasNoTypeFault tree names
  pub program_is : program ≡ program_of tree names tokens

-- The first fault of a tree of so many tokens. Types are looked at where the scopes have no fault, and the rules of modules
-- and devices where the types have none.
pub data IsTreeFault (tree : Tree) (tokens : ℕ) (fault : Fault) : Type 0 where
  scope : IsFirst (IsScopeFault tree) fault → IsTreeFault tree tokens fault
  type : (names : List Naming) → HasNoScopeFault tree → AreNamingsOf tree names → IsFirst (IsTypeFault tree names) fault → IsTreeFault tree tokens fault
  rule : (program : Resolved) → IsTyped tree tokens program → IsFirst (IsRuleFault program) fault → IsTreeFault tree tokens fault

-- a tree without faults, and its program
pub record IsFaultlessTree (tree : Tree) (tokens : ℕ) (program : Resolved) : Type 0 where
  pub typed : IsTyped tree tokens program
  pub no_rule_fault : HasNoRuleFault program

-- its size is within the limit
pub record IsAcceptedTree (tree : Tree) (tokens : ℕ) (program : Resolved) : Type 0 where
  pub faultless : IsFaultlessTree tree tokens program
  pub small : program.size ≤ 20000

-- it is not
pub record IsTooLargeTree (tree : Tree) (tokens : ℕ) : Type 0 where
  pub program : Resolved
  pub faultless : IsFaultlessTree tree tokens program
  pub large : 20000 < program.size

-- A whole source

-- no stage finds a fault, and this is the program
pub record IsFaultless (source : List ℕ) (program : Resolved) : Type 0 where
  pub tree : Tree
  pub tokens : ℕ
  pub parsed : IsParsed source tree tokens
  pub faultless : IsFaultlessTree tree tokens program

-- the source is accepted, and this is its program
pub record IsAccepted (source : List ℕ) (program : Resolved) : Type 0 where
  pub faultless : IsFaultless source program
  pub small : program.size ≤ 20000

-- it has no fault, and is too large
pub record IsTooLarge (source : List ℕ) : Type 0 where
  pub program : Resolved
  pub faultless : IsFaultless source program
  pub large : 20000 < program.size

-- The first fault of a source. Its tree is looked at where its text has no fault.
pub data IsSourceFault (source : List ℕ) (fault : Fault) : Type 0 where
  of_text : IsTextFault source fault → IsSourceFault source fault
  of_tree : (tree : Tree) (tokens : ℕ) → IsParsed source tree tokens → IsTreeFault tree tokens fault → IsSourceFault source fault

-- it is accepted, and not of the form that is compiled today
pub record IsNotBuilt (source : List ℕ) : Type 0 where
  pub program : Resolved
  pub accepted : IsAccepted source program
  pub no_form : (form : Straight) → IsStraightSource source form → ⊥

-- What a refusal says: a fault, that the size is too large, that the form is not built. Want of memory says nothing.
abbrev pub Refuses : (Fault → Type 0) → Type 0 → Type 0 → Refusal → Type 0
Refuses HasFault HasLargeSize HasOtherForm (Source code place) = HasFault (record { code = code; place = place })
Refuses HasFault HasLargeSize HasOtherForm TooLarge = HasLargeSize
Refuses HasFault HasLargeSize HasOtherForm NotYet = HasOtherForm
Refuses HasFault HasLargeSize HasOtherForm Memory = Unit {0}

-- the source is not accepted
abbrev pub IsRefused : List ℕ → Refusal → Type 0
IsRefused source = Refuses (IsSourceFault source) (IsTooLarge source) ⊥

-- it is not compiled
abbrev pub IsNotCompiled : List ℕ → Refusal → Type 0
IsNotCompiled source = Refuses (IsSourceFault source) (IsTooLarge source) (IsNotBuilt source)

-- the same of its text, of its tree and of its program
abbrev pub IsRefusedText : List ℕ → Refusal → Type 0
IsRefusedText source = Refuses (IsTextFault source) ⊥ ⊥

abbrev pub IsRefusedTree : Tree → ℕ → Refusal → Type 0
IsRefusedTree tree tokens = Refuses (IsTreeFault tree tokens) (IsTooLargeTree tree tokens) ⊥

abbrev pub IsRefusedProgram : Resolved → Refusal → Type 0
IsRefusedProgram program = Refuses (IsFirst (IsRuleFault program)) (HasNoRuleFault program × (20000 < program.size)) ⊥

-- a tree that is accepted has another form
pub record IsOtherTree (tree : Tree) (tokens : ℕ) : Type 0 where
  pub program : Resolved
  pub accepted : IsAcceptedTree tree tokens program
  pub no_form : (form : Straight) → IsStraight tree form → ⊥

abbrev pub IsNotCompiledTree : Tree → ℕ → Refusal → Type 0
IsNotCompiledTree tree tokens = Refuses (IsTreeFault tree tokens) (IsTooLargeTree tree tokens) (IsOtherTree tree tokens)

-- the refusal with a fault, or for want of memory where there is none
abbrev pub refusal_of : Option Fault → Refusal
refusal_of None = Memory
refusal_of (Some fault) = Source fault.code fault.place
