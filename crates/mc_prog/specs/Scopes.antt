-- The rules of scopes, and what breaks them. What stands before a place in a text is read backwards: the latest first.
use Rattle.std.specs.Prelude.{◌≡◌, ◌≢◌, ◌⊎◌, ℕ, true, List, [], ◌∷◌, Option, Some, None, length}
use Rattle.mc_tree.specs.declared.fault.Code.{Code}
use Rattle.mc_tree.specs.declared.fault.Code.TheVariants as code
use Rattle.mc_tree.specs.declared.fault.Fault.{Fault}
use Rattle.mc_tree.specs.declared.tree.Id.{Id}
use Rattle.mc_tree.specs.declared.tree.Tree.{Tree}
use Rattle.mc_prog.specs.Notes.{Item, ScopeKind, Block, Code as CodeScope, Record, Opens, Closes, Declares, Field, Knows, Lists, Defines, Uses, Ends}
use Rattle.mc_prog.specs.Names.{names_of}
use Rattle.mc_prog.specs.Standard.{is_standard}

-- A scope. Its number is how many items stand before the one that opens it, so no two have the same.
pub record Scope : Type 0 where
  pub kind : ScopeKind
  pub number : ℕ

-- an item, and the scopes around it from the innermost out
pub record Placed : Type 0 where
  pub item : Item
  pub around : List Scope

-- what stands before a place, the latest first
abbrev pub Before : Type 0
Before = List Placed

abbrev pub outer : List Scope → List Scope
outer [] = []
outer (s ∷ around) = around

-- the scopes around what stands behind an item, which so many others stand before
abbrev pub scopes_behind : ℕ → Item → List Scope → List Scope
scopes_behind n (Opens kind) around = record { kind = kind; number = n } ∷ around
scopes_behind n Closes around = outer around
scopes_behind n (Declares name) around = around
scopes_behind n (Field name) around = around
scopes_behind n (Knows name) around = around
scopes_behind n (Lists name) around = around
scopes_behind n (Defines name) around = around
scopes_behind n (Uses name) around = around
scopes_behind n (Ends name end) around = around

-- the scopes around what stands behind these
abbrev pub scopes : Before → List Scope
scopes [] = []
scopes (p ∷ before) = scopes_behind (length before) p.item p.around

-- items behind what stands before them, each in its scopes
abbrev pub placed : Before → List Item → Before
placed before [] = before
placed before (item ∷ items) = placed (record { item = item; around = scopes before } ∷ before) items

-- A scope by its number, where there is one.
abbrev pub innermost : List Scope → Option ℕ
innermost [] = None
innermost (s ∷ around) = Some s.number

-- the scope that declares: the innermost but for records
abbrev pub home_by : ScopeKind → ℕ → Option ℕ → Option ℕ
home_by Block number further = Some number
home_by CodeScope number further = Some number
home_by Record number further = further

abbrev pub home : List Scope → Option ℕ
home [] = None
home (s ∷ around) = home_by s.kind s.number (home around)

abbrev pub numbers : List Scope → List ℕ
numbers [] = []
numbers (s ∷ around) = s.number ∷ numbers around

-- the scopes where a use finds its name: those up to the module around it
abbrev pub near_by : ScopeKind → List ℕ → List ℕ
near_by Block further = []
near_by CodeScope further = further
near_by Record further = further

abbrev pub near : List Scope → List ℕ
near [] = []
near (s ∷ around) = s.number ∷ near_by s.kind (near around)

-- the blocks further out than that module
abbrev pub far_by : ScopeKind → List Scope → List ℕ → List ℕ
far_by Block around further = numbers around
far_by CodeScope around further = further
far_by Record around further = further

abbrev pub far : List Scope → List ℕ
far [] = []
far (s ∷ around) = far_by s.kind around (far around)

-- a name in a scope
pub record Named : Type 0 where
  pub scope : ℕ
  pub name : Id

abbrev pub named_in : Option ℕ → Id → Option Named
named_in None name = None
named_in (Some scope) name = Some (record { scope = scope; name = name })

-- What counts as declared, and where: the names of use lists too, and those of define lists around their module.
abbrev pub declared_by : Item → List Scope → Option Named
declared_by (Opens kind) around = None
declared_by Closes around = None
declared_by (Declares name) around = named_in (home around) name
declared_by (Field name) around = named_in (innermost around) name
declared_by (Knows name) around = None
declared_by (Lists name) around = named_in (innermost around) name
declared_by (Defines name) around = named_in (innermost (outer around)) name
declared_by (Uses name) around = None
declared_by (Ends name end) around = None

-- what is declared in a scope itself
abbrev pub own_by : Item → List Scope → Option Named
own_by (Opens kind) around = None
own_by Closes around = None
own_by (Declares name) around = named_in (home around) name
own_by (Field name) around = None
own_by (Knows name) around = None
own_by (Lists name) around = None
own_by (Defines name) around = None
own_by (Uses name) around = None
own_by (Ends name end) around = None

-- where a name comes to be known, if it does
abbrev pub known_by : Item → List Scope → Option Named
known_by (Opens kind) around = None
known_by Closes around = None
known_by (Declares name) around = None
known_by (Field name) around = None
known_by (Knows name) around = named_in (home around) name
known_by (Lists name) around = named_in (innermost around) name
known_by (Defines name) around = named_in (innermost (outer around)) name
known_by (Uses name) around = None
known_by (Ends name end) around = None

-- this scope and this name
abbrev pub Is : Option Named → ℕ → List ℕ → Type 0
Is None scope name = ⊥
Is (Some n) scope name = (n.scope ≡ scope) × (n.name.text ≡ name)

-- a name has been declared in a scope, is its own, is known there
abbrev pub IsDeclared : Before → ℕ → List ℕ → Type 0
IsDeclared [] scope name = ⊥
IsDeclared (p ∷ before) scope name = Is (declared_by p.item p.around) scope name ⊎ IsDeclared before scope name

abbrev pub IsOwn : Before → ℕ → List ℕ → Type 0
IsOwn [] scope name = ⊥
IsOwn (p ∷ before) scope name = Is (own_by p.item p.around) scope name ⊎ IsOwn before scope name

-- of a scope, where there is one
abbrev pub Of : Option ℕ → (ℕ → Type 0) → Type 0
Of None P = ⊥
Of (Some scope) P = P scope

-- A module lets out what it knows itself alone: a name of its define list that is a module's stays unknown around it.
abbrev pub IsLetOut : (ℕ → Type 0) → Item → List Scope → Type 0
IsLetOut KnownIn (Opens kind) around = Unit {0}
IsLetOut KnownIn Closes around = Unit {0}
IsLetOut KnownIn (Declares name) around = Unit {0}
IsLetOut KnownIn (Field name) around = Unit {0}
IsLetOut KnownIn (Knows name) around = Unit {0}
IsLetOut KnownIn (Lists name) around = Unit {0}
IsLetOut KnownIn (Defines name) around = Of (innermost around) KnownIn
IsLetOut KnownIn (Uses name) around = Unit {0}
IsLetOut KnownIn (Ends name end) around = Unit {0}

-- an item makes a name known in a scope, by where it was known before
abbrev pub IsMadeKnown : (ℕ → Type 0) → Item → List Scope → ℕ → List ℕ → Type 0
IsMadeKnown KnownIn item around scope name = Is (known_by item around) scope name × IsLetOut KnownIn item around

abbrev pub IsKnown : Before → ℕ → List ℕ → Type 0
IsKnown [] scope name = ⊥
IsKnown (p ∷ before) scope name = IsMadeKnown (λ (s : ℕ). IsKnown before s name) p.item p.around scope name ⊎ IsKnown before scope name

-- it is known in one of these scopes
abbrev pub IsKnownIn : Before → List ℕ → List ℕ → Type 0
IsKnownIn before [] name = ⊥
IsKnownIn before (scope ∷ more) name = IsKnown before scope name ⊎ IsKnownIn before more name

abbrev pub IsStandard : List ℕ → Type 0
IsStandard name = is_standard name ≡ true

abbrev pub fault : Code → Id → Fault
fault c name = record { code = c; place = name.place }

-- Declared twice, or a standard name that is declared.
abbrev pub IsTwice : Before → Option Named → Fault → Type 0
IsTwice before None f = ⊥
IsTwice before (Some n) f = (IsDeclared before n.scope n.name.text ⊎ IsStandard n.name.text) × (f ≡ fault code.S2 n.name)

-- the same in a scope that there may not be
abbrev pub IsOwnOf : Before → Option ℕ → List ℕ → Type 0
IsOwnOf before None name = ⊥
IsOwnOf before (Some scope) name = IsOwn before scope name

abbrev pub IsKnownOf : Before → Option ℕ → List ℕ → Type 0
IsKnownOf before None name = ⊥
IsKnownOf before (Some scope) name = IsKnown before scope name

-- Defined, and not declared in the module.
abbrev pub IsUndefined : Before → Option ℕ → Id → Fault → Type 0
IsUndefined before module_ name f = (IsOwnOf before module_ name.text → ⊥) × (f ≡ fault code.S3 name)

-- In a use list, and not known around the module.
abbrev pub IsUnlisted : Before → Option ℕ → Id → Fault → Type 0
IsUnlisted before around name f = (IsKnownOf before around name.text → ⊥) × (IsStandard name.text → ⊥) × (f ≡ fault code.S1 name)

-- Used, and known nowhere.
abbrev pub IsUnknown : Before → List Scope → Id → Fault → Type 0
IsUnknown before around name f =
    (IsKnownIn before (near around) name.text → ⊥) × (IsStandard name.text → ⊥) × (IsKnownIn before (far around) name.text → ⊥) × (f ≡ fault code.S1 name)

-- Used, and known further out only.
abbrev pub IsFurther : Before → List Scope → Id → Fault → Type 0
IsFurther before around name f =
    (IsKnownIn before (near around) name.text → ⊥) × (IsStandard name.text → ⊥) × IsKnownIn before (far around) name.text × (f ≡ fault code.S4 name)

-- Another name behind the end.
abbrev pub IsOtherEnd : Id → Id → Fault → Type 0
IsOtherEnd name end f = (end.text ≢ name.text) × (f ≡ fault code.S5 end)

-- The faults of an item behind what stands before it.
abbrev pub IsFaultOf : Before → List Scope → Item → Fault → Type 0
IsFaultOf before around (Opens kind) f = ⊥
IsFaultOf before around Closes f = ⊥
IsFaultOf before around (Declares name) f = IsTwice before (declared_by (Declares name) around) f
IsFaultOf before around (Field name) f = IsTwice before (declared_by (Field name) around) f
IsFaultOf before around (Knows name) f = ⊥
IsFaultOf before around (Lists name) f = IsUnlisted before (innermost (outer around)) name f ⊎ IsTwice before (declared_by (Lists name) around) f
IsFaultOf before around (Defines name) f = IsTwice before (declared_by (Defines name) around) f ⊎ IsUndefined before (innermost around) name f
IsFaultOf before around (Uses name) f = IsUnknown before around name f ⊎ IsFurther before around name f
IsFaultOf before around (Ends name end) f = IsOtherEnd name end f

-- one of these has the fault
abbrev pub HasFault : Before → Fault → Type 0
HasFault [] f = ⊥
HasFault (p ∷ before) f = IsFaultOf before p.around p.item f ⊎ HasFault before f

-- the scope faults of a tree
abbrev pub IsScopeFault : Tree → Fault → Type 0
IsScopeFault tree f = HasFault (placed [] (names_of tree)) f
