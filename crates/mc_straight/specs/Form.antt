-- The straight-line form: one device module that assigns characters to the printer's and the punch's registers.
use Rattle.std.specs.Prelude.{◌≡◌, ◌≢◌, ℕ, ◌*◌, ◌≤◌, Bool, false, ◌||◌, bytes_eq, List, [], ◌∷◌, map, codes, length, slice_get, Some}
use Rattle.mc_tree.specs.declared.place.Place.{Place}
use Rattle.mc_tree.specs.declared.token.Token.{Token}
use Rattle.mc_tree.specs.declared.tree.Id.{Id}
use Rattle.mc_tree.specs.declared.tree.Begun.{Begun}
use Rattle.mc_tree.specs.declared.tree.Bracket.{Bracket}
use Rattle.mc_tree.specs.declared.tree.Device.{Device}
use Rattle.mc_tree.specs.declared.tree.DeviceProgram.{DeviceProgram}
use Rattle.mc_tree.specs.declared.tree.DevicePart.TheVariants as device_part
use Rattle.mc_tree.specs.declared.tree.Decl.TheVariants as decl
use Rattle.mc_tree.specs.declared.tree.Tree.{Tree}
use Rattle.mc_tree.specs.declared.tree.Tree.TheVariants as trees
use Rattle.mc_tree.specs.declared.tree.Var.{Var}
use Rattle.mc_tree.specs.declared.tree.VarId.{VarId}
use Rattle.mc_tree.specs.declared.statement.Body.{Body}
use Rattle.mc_tree.specs.declared.statement.Statement.{Statement}
use Rattle.mc_tree.specs.declared.statement.Statement.TheViews.{out-Body}
use Rattle.mc_tree.specs.Sources.{Spells}
use Rattle.mc_tree.specs.Programs.{IsTreeOf}
use Rattle.pdp_dev.specs.declared.entry.Port.{Port}
use Rattle.pdp_dev.specs.declared.entry.Port.TheVariants.{Printer, Punch}
use Rattle.mc_straight.specs.declared.form.Put.{Put}
use Rattle.mc_straight.specs.Alone.{IsNumber, IsChar, IsAssigned}
use Rattle.mc_prog.specs.Program.{Cell, Constant, Statement as ProgramStatement, Assign, Device as DeviceKind, CellInfo, Program}

-- what a source of this form says
pub record Straight : Type 0 where
  pub priority : ℕ
  pub variables : List Port
  pub puts : List Put

abbrev pub address_of : Port → ℕ
address_of Printer = 0o177566
address_of Punch = 0o177556

-- the standard names, which no source declares
abbrev pub is_standard : List ℕ → Bool
is_standard name =
    bytes_eq name (codes "integer") || (bytes_eq name (codes "Boolean") || (bytes_eq name (codes "char") || (bytes_eq name (codes "bits")
    || (bytes_eq name (codes "signal") || (bytes_eq name (codes "true") || (bytes_eq name (codes "false") || (bytes_eq name (codes "wait")
    || (bytes_eq name (codes "send") || (bytes_eq name (codes "awaited") || bytes_eq name (codes "doio"))))))))))

-- a declared name that none of the others is, and that is no standard name
pub record IsOwn (name : List ℕ) (others : List (List ℕ)) : Type 0 where
  pub differs : (i : ℕ) → slice_get others i ≢ Some name
  pub no_standard : is_standard name ≡ false

-- declared names, which differ from one another and from the standard names
abbrev pub AreOwn : List (List ℕ) → Type 0
AreOwn [] = Unit {0}
AreOwn (name ∷ names) = IsOwn name names × AreOwn names

-- two lists of one length, whose items stand in this relation place by place
abbrev pub ArePaired : {A B : Type 0} → (A → B → Type 0) → List A → List B → Type 0
ArePaired R [] [] = Unit {0}
ArePaired R [] (y ∷ ys) = ⊥
ArePaired R (x ∷ xs) [] = ⊥
ArePaired R (x ∷ xs) (y ∷ ys) = R x y × ArePaired R xs ys

-- [PRIORITY]
pub record IsPriority (bracket : Bracket) (priority : ℕ) : Type 0 where
  pub number : IsNumber bracket.value priority
  pub least : 4 ≤ priority
  pub most : priority ≤ 7

-- NAME [ADDRESS]
pub record HasAddress (id : VarId) (address : ℕ) : Type 0 where
  pub bracket : Bracket
  pub is : id.address ≡ Some bracket
  pub number : IsNumber bracket.value address

-- NAME [ADDRESS]: char;
pub record IsVariable (var : Var) (port : Port) : Type 0 where
  pub one : var.more ≡ []
  pub address : HasAddress var.first (address_of port)
  pub of_char : IsChar var.of

-- the name of a part of a `var` declaration that has one name
abbrev pub name_of : Var → List ℕ
name_of var = var.first.name.text

-- NAME := CHARACTER, with the name of a variable
pub record IsPut (vars : List Var) (variables : List Port) (statement : Statement) (put : Put) : Type 0 where
  pub name : Id
  pub assigned : IsAssigned statement name put.byte
  pub declared : slice_get (map name_of vars) put.variable ≡ Some name.text
  pub port : slice_get variables put.variable ≡ Some put.port

-- the statements of a body, in order
abbrev pub statements_of : Body → List Statement
statements_of body = (out-Body body).first ∷ map (λ a. a.item) (out-Body body).more

-- the one part of the block is a `var` declaration of these variables
pub record Declares (block : Device) (first : Var) (more : List Var) : Type 0 where
  pub var : Place
  pub is : block.parts ≡ device_part.Decl (decl.Var var first more) ∷ []

-- A device module: a priority, one `var` declaration of one or more registers, and a body of one or more assignments of
-- characters to them. The name at its end is its own.
pub record IsStraightProgram (program : DeviceProgram) (form : Straight) : Type 0 where
  pub first : Var
  pub more : List Var
  pub begun : Begun
  pub priority : IsPriority program.bracket form.priority
  pub declares : Declares program.block first more
  pub has_body : program.block.body ≡ Some begun
  pub variables : ArePaired IsVariable (first ∷ more) form.variables
  pub puts : ArePaired (IsPut (first ∷ more) form.variables) (statements_of begun.body) form.puts
  pub ends : program.end_name.text ≡ program.name.text
  pub own : AreOwn (program.name.text ∷ map name_of (first ∷ more))

-- the tree is such a module, and this is what it says
pub record IsStraight (tree : Tree) (form : Straight) : Type 0 where
  pub program : DeviceProgram
  pub device : tree ≡ trees.Device program
  pub straight : IsStraightProgram program form

-- a source of this form, and what it says: at 12 words for each token its size is at most 20,000 words
pub record IsStraightSource (source : List ℕ) (form : Straight) : Type 0 where
  pub tokens : List Token
  pub end : Place
  pub spelled : Spells tokens end source
  pub tree : Tree
  pub parsed : IsTreeOf tree tokens
  pub size : 12 * length tokens ≤ 20000
  pub straight : IsStraight tree form

-- The program that such a source stands for: one device module, whose variables are registers

abbrev pub cell_of : Port → CellInfo
cell_of port = record { module_of = 0; register = Some (address_of port) }

abbrev pub statement_of : Put → ProgramStatement
statement_of put = Assign (Cell put.variable) (Constant put.byte)

-- The main process's text calls one body without arguments, and counts 16 + 1 * 6 words; the body has one constant open at
-- once and no call, and counts 16 + 2 * 6.
abbrev pub program_of : Straight → Program
program_of form =
    record {
      modules = record { kind = DeviceKind; priority = form.priority; body = map statement_of form.puts; frame = 28 } ∷ [];
      cells = map cell_of form.variables;
      main = 0 ∷ [];
      main_frame = 22;
    }

-- the size of such a source: 12 words for each token, and no data words
abbrev pub size_of : List Token → ℕ
size_of tokens = 12 * length tokens
