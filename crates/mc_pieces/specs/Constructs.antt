-- What a piece of the code says of the tree.
use Rattle.mc_prog.specs.Pieces.{Construct, Around, ModuleSort, PlainModule, InterfaceModule, DeviceModule, Passing, ByValue, ByName, CodeSort, Procedure, Process, Driver, Number, Character, Text, Name, Select, Index, Designated, Calling, Group, Negation, Bits, Element, Signed, Sum, Product, Comparison, Assignment, Statement, If, While, Repeat, Loop, When, Case, Arm, Label, Body, TypeName, Enumeration, EnumerationValue, Range, Array, Record, FieldGroup, Constant, TypeDeclaration, Variable, Parameter, ResultType, Heading, Ending, Module, Running}
use Rattle.mc_pieces.specs.declared.piece.ModuleSort.{ModuleSort as ModuleSortThere}
use Rattle.mc_pieces.specs.declared.piece.ModuleSort.TheVariants as module_sort
use Rattle.mc_pieces.specs.declared.piece.Passing.{Passing as PassingThere}
use Rattle.mc_pieces.specs.declared.piece.Passing.TheVariants as passing
use Rattle.mc_pieces.specs.declared.piece.CodeSort.{CodeSort as CodeSortThere}
use Rattle.mc_pieces.specs.declared.piece.CodeSort.TheVariants as code_sort
use Rattle.mc_pieces.specs.declared.piece.Around.{Around as AroundThere}
use Rattle.mc_pieces.specs.declared.piece.Construct.{Construct as ConstructThere}
use Rattle.mc_pieces.specs.declared.piece.Construct.TheVariants as construct

abbrev pub module_sort_of : ModuleSortThere → ModuleSort
module_sort_of module_sort.Plain = PlainModule
module_sort_of module_sort.Interface = InterfaceModule
module_sort_of module_sort.Device = DeviceModule

abbrev pub passing_of : PassingThere → Passing
passing_of passing.ByValue = ByValue
passing_of passing.ByName = ByName

abbrev pub code_sort_of : CodeSortThere → CodeSort
code_sort_of code_sort.Procedure = Procedure
code_sort_of code_sort.Process = Process
code_sort_of code_sort.Driver = Driver

abbrev pub around_of : AroundThere → Around
around_of a = record { module_at = a.module_at; code_at = a.code_at }

abbrev pub construct_of : ConstructThere → Construct
construct_of (construct.Number value) = Number value
construct_of (construct.Character value) = Character value
construct_of (construct.Text text) = Text text.now
construct_of (construct.Name id) = Name id.now
construct_of (construct.Select id) = Select id.now
construct_of construct.Index = Index
construct_of construct.Designated = Designated
construct_of (construct.Calling id) = Calling id.now
construct_of construct.Group = Group
construct_of construct.Negation = Negation
construct_of construct.Bits = Bits
construct_of construct.Element = Element
construct_of (construct.Signed sign) = Signed sign
construct_of (construct.Sum operator) = Sum operator
construct_of (construct.Product operator) = Product operator
construct_of (construct.Comparison relation) = Comparison relation
construct_of construct.Assignment = Assignment
construct_of (construct.Statement id) = Statement id.now
construct_of construct.If = If
construct_of construct.While = While
construct_of construct.Repeat = Repeat
construct_of construct.Loop = Loop
construct_of construct.When = When
construct_of construct.Case = Case
construct_of construct.Arm = Arm
construct_of construct.Label = Label
construct_of construct.Body = Body
construct_of (construct.TypeName id) = TypeName id.now
construct_of (construct.Enumeration values) = Enumeration values
construct_of (construct.EnumerationValue id) = EnumerationValue id.now
construct_of construct.Range = Range
construct_of construct.Array = Array
construct_of construct.Record = Record
construct_of (construct.FieldGroup names) = FieldGroup names.now
construct_of (construct.Constant id) = Constant id.now
construct_of (construct.TypeDeclaration id) = TypeDeclaration id.now
construct_of (construct.Variable id) = Variable id.now
construct_of (construct.Parameter how id) = Parameter (passing_of how) id.now
construct_of construct.ResultType = ResultType
construct_of (construct.Heading sort id) = Heading (code_sort_of sort) id.now
construct_of (construct.Ending sort id) = Ending (code_sort_of sort) id.now
construct_of (construct.Module sort id) = Module (module_sort_of sort) id.now
construct_of construct.Running = Running
