-- Of the declarations and the texts of a tree: its first fault, and its program.
use Rattle.std.specs.Prelude.{◌≡◌, ℕ, List, [], Option}
use Rattle.std.proofs.Common.{ap, ◌∙◌, subst, inl, inr}
use Rattle.mc_tree.specs.declared.fault.Fault.{Fault}
use Rattle.mc_tree.specs.declared.tree.Tree.{Tree}
use Rattle.mc_prog.specs.declared.program.CodeInfo.{CodeInfo}
use Rattle.mc_prog.specs.declared.scoped.Naming.{Naming}
use Rattle.mc_prog.specs.declared.typing.Typed.{Typed}
use Rattle.mc_prog.specs.Declarations.{Declared}
use Rattle.mc_prog.specs.Known.{Known}
use Rattle.mc_prog.specs.Pieces.{Piece}
use Rattle.mc_prog.specs.TreePieces.{declarations_of}
use Rattle.mc_prog.specs.TextPieces.{texts_of}
use Rattle.mc_prog.specs.Resolved.{HasDeclarationFault, HasRuleFault, HasTextFault, Texts, known_in, latest_first, program_of, scope_in}
use Rattle.mc_types.specs.Assembled.{assembled_of}
use Rattle.mc_types.specs.IsKnown.{IsKnown}
use Rattle.mc_types.specs.Knows.{Knows}
use Rattle.mc_types.specs.NameTables.{AreUses}
use Rattle.mc_types.specs.declared.lookup.Known.{Known as KnownThere}
use Rattle.mc_types.specs.Ranks.{IsFirstOf, IsLeastOf}
use Rattle.mc_types.specs.Runs.{AreTextsOf}
use Rattle.mc_types.specs.Stands.{IsScopeOf}
use Rattle.mc_types.specs.declared.names.Uses.{Uses}
use Rattle.mc_types.specs.declared.names.Entities.{Entities}
use Rattle.mc_types.proofs.PassLaws.{least-of-both}
use Rattle.mc_types.proofs.ScopeLaws.{knows}

-- what the code keeps of the declarations and the texts of a tree
pub record IsWhole (tree : Tree) (names : List Naming) (uses : Uses) (entities : Entities) (declared : Declared) (typed : List Typed) (texts : Texts) (one other : Option Fault) : Type 0 where
  pub scope : IsScopeOf (latest_first [] names) uses (declarations_of tree) (declarations_of tree) entities declared typed one
  pub texts_are : AreTextsOf (known_in tree names) (scope_in tree names).declared.procedures (texts_of tree) (texts_of tree) texts other

pub first-rule-fault : (tree : Tree) (names : List Naming) (uses : Uses) (entities : Entities) (declared : Declared) (typed : List Typed) (texts : Texts) (one other found : Option Fault)
    → IsWhole tree names uses entities declared typed texts one other → IsFirstOf one other found → IsLeastOf (HasRuleFault tree names) found
first-rule-fault tree names uses entities declared typed texts one other found w e =
    least-of-both (HasDeclarationFault tree names) (HasTextFault tree names) (HasRuleFault tree names) one other found w.scope.fault w.texts_are.fault e (λ f k. k) (λ f k. inl k) (λ f k. inr k)

pub whole-program : (tree : Tree) (names : List Naming) (uses : Uses) (entities : Entities) (declared : Declared) (typed : List Typed) (texts : Texts) (one other : Option Fault) (tokens : ℕ)
    → IsWhole tree names uses entities declared typed texts one other → assembled_of declared texts tokens (texts_of tree) ≡ program_of tree names tokens
whole-program tree names uses entities declared typed texts one other tokens w =
    ap (λ (d : Declared). assembled_of d texts tokens (texts_of tree)) w.scope.stands.declared
    ∙ ap (λ (t : Texts). assembled_of (scope_in tree names).declared t tokens (texts_of tree)) w.texts_are.texts

pub whole-of : (tree : Tree) (names : List Naming) (uses : Uses) (entities : Entities) (declared : Declared) (typed : List Typed) (texts : Texts) (one other : Option Fault)
    → (handed : List Naming) → handed ≡ names → AreUses (latest_first [] handed) uses.declarations
    → (ps : List Piece) → ps ≡ declarations_of tree
    → ((namings : List Naming) → AreUses namings uses.declarations → IsScopeOf namings uses ps ps entities declared typed one)
    → (known : KnownThere) → ((k : Known) → Knows k uses entities declared → IsKnown k known)
    → (procedures : List CodeInfo) → procedures ≡ declared.procedures
    → (ts : List Piece) → ts ≡ texts_of tree
    → ((k : Known) → IsKnown k known → AreTextsOf k procedures ts ts texts other)
    → IsWhole tree names uses entities declared typed texts one other
whole-of tree names uses entities declared typed texts one other handed same used ps ps_are scoped known knowing procedures procedures_are ts ts_are running =
    let namings : List Naming = latest_first [] names in
    let u : AreUses namings uses.declarations = subst (λ (ns : List Naming). AreUses (latest_first [] ns) uses.declarations) same used in
    let s : IsScopeOf namings uses (declarations_of tree) (declarations_of tree) entities declared typed one =
    subst (λ (qs : List Piece). IsScopeOf namings uses qs qs entities declared typed one) ps_are (scoped namings u) in
    let k : Known = known_in tree names in
    let is : IsKnown k known = knowing k (knows namings (scope_in tree names) uses entities declared typed s.stands) in
    let r : AreTextsOf k procedures ts ts texts other = running k is in
    record {
      scope = s;
      texts_are = subst (λ (qs : List Piece). AreTextsOf k (scope_in tree names).declared.procedures qs qs texts other) ts_are
          (subst (λ (p : List CodeInfo). AreTextsOf k p ts ts texts other) (procedures_are ∙ ap (λ (d : Declared). d.procedures) s.stands.declared) r);
    }
