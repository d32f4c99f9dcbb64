-- Each phrase of the grammar has a tree.
use Rattle.std.specs.Prelude.{[], ◌∷◌, None}
use Rattle.std.proofs.Common.{inl, inr}
use Rattle.mc_tree.specs.declared.place.Place.{Place}
use Rattle.mc_tree.specs.declared.expression.Expr.{Expr}
use Rattle.mc_tree.specs.declared.statement.Body.{Body}
use Rattle.mc_tree.specs.declared.tree.Decl.TheVariants as decl
use Rattle.mc_tree.specs.declared.tree.Tree.TheVariants as tree
use Rattle.mc_tree.specs.declared.expression.Factor.TheOpen.{Factor-F}
use Rattle.mc_tree.specs.declared.statement.Statement.TheOpen.{Statement-F}
use Rattle.mc_tree.specs.declared.tree.TypeTree.TheOpen.{TypeTree-F}
use Rattle.mc_tree.specs.declared.tree.Module.TheOpen.{Module-F}
use Rattle.mc_tree.specs.declared.expression.Factor.TheViews.{roll-Factor, roll-Element, roll-Expr, roll-Simple, roll-Term}
use Rattle.mc_tree.specs.declared.statement.Statement.TheViews.{roll-Statement, roll-Arm, roll-Body}
use Rattle.mc_tree.specs.declared.tree.TypeTree.TheViews.{roll-TypeTree, roll-Fields}
use Rattle.mc_tree.specs.declared.tree.Module.TheViews.{roll-Module}
use Rattle.mc_tree.specs.Classes.{Class, ReservedClass, NameClass, NumberClass, CharacterClass, TextClass, SymbolClass, Data}
use Rattle.mc_tree.specs.Grammar.{Phrase, ExprPhrase, ExprTailPhrase, SimplePhrase, SimpleTailPhrase, TermPhrase, TermTailPhrase, FactorPhrase, BitsTailPhrase, ElementPhrase, ElementTailPhrase, CommaElementsPhrase, CommaExprsPhrase, FactorTailPhrase, SelectorsPhrase, StatementPhrase, StatementsPhrase, StatementTailPhrase, AssigningPhrase, ElsifsPhrase, ElsePhrase, ExitsPhrase, LastBodyPhrase, ArmPhrase, ArmsPhrase, TypePhrase, RangePhrase, CommaRangesPhrase, IdsPhrase, CommaIdsPhrase, FieldsPhrase, MoreFieldsPhrase, DeclPhrase, ConstPhrase, ConstsPhrase, TypeDeclPhrase, TypeDeclsPhrase, VarIdPhrase, AddressPhrase, VarPhrase, CommaVarIdsPhrase, VarsPhrase, DeclsPhrase, ProcedurePhrase, ProcessPhrase, DriverPhrase, ParamsPhrase, AnswerPhrase, SectionPhrase, SectionsPhrase, PlainPartsPhrase, FacePartsPhrase, DevicePartsPhrase, BegunPhrase, DefinesPhrase, UsesPhrase, ModulePhrase, ProgramPhrase, Take, Sub, Stack}
use Rattle.mc_tree.specs.Phrases.{Of, Trees}

abbrev nowhere : Place
nowhere = record { line = 1; column = 1 }

abbrev some_expr : Expr
some_expr = (roll-Expr (record { left = (roll-Simple (record { sign = None; first = (roll-Term (record { first = (roll-Factor (Factor-F.Number 0 nowhere)); more = [] })); more = [] })); compared = None }))

abbrev some_body : Body
some_body = (roll-Body (record { first = (roll-Statement Statement-F.Empty); more = [] }))

abbrev some_tree : (phrase : Phrase) → Of phrase
some_tree ExprPhrase = some_expr
some_tree ExprTailPhrase = None
some_tree SimplePhrase = (roll-Simple (record { sign = None; first = (roll-Term (record { first = (roll-Factor (Factor-F.Number 0 nowhere)); more = [] })); more = [] }))
some_tree SimpleTailPhrase = []
some_tree TermPhrase = (roll-Term (record { first = (roll-Factor (Factor-F.Number 0 nowhere)); more = [] }))
some_tree TermTailPhrase = []
some_tree FactorPhrase = (roll-Factor (Factor-F.Number 0 nowhere))
some_tree BitsTailPhrase = (None, nowhere)
some_tree ElementPhrase = roll-Element (record { first = some_expr; last = None })
some_tree ElementTailPhrase = None
some_tree CommaElementsPhrase = []
some_tree CommaExprsPhrase = []
some_tree FactorTailPhrase = inr []
some_tree SelectorsPhrase = []
some_tree StatementPhrase = roll-Statement Statement-F.Empty
some_tree StatementsPhrase = []
some_tree StatementTailPhrase = inl None
some_tree AssigningPhrase = record { selectors = []; becomes = nowhere; value = some_expr }
some_tree ElsifsPhrase = []
some_tree ElsePhrase = None
some_tree ExitsPhrase = []
some_tree LastBodyPhrase = None
some_tree ArmPhrase = roll-Arm (record { first = some_expr; more = []; colon = nowhere; begin = nowhere; body = some_body; end = nowhere })
some_tree ArmsPhrase = []
some_tree TypePhrase = (roll-TypeTree (TypeTree-F.Name (record { text = []; place = nowhere })))
some_tree RangePhrase = record { low = some_expr; colon = nowhere; high = some_expr }
some_tree CommaRangesPhrase = []
some_tree IdsPhrase = (record { first = (record { text = []; place = nowhere }); more = [] })
some_tree CommaIdsPhrase = []
some_tree FieldsPhrase = roll-Fields (record { names = (record { first = (record { text = []; place = nowhere }); more = [] }); colon = nowhere; of = (roll-TypeTree (TypeTree-F.Name (record { text = []; place = nowhere }))) })
some_tree MoreFieldsPhrase = []
some_tree DeclPhrase = decl.Const nowhere (record { name = (record { text = []; place = nowhere }); equal = nowhere; value = some_expr; semicolon = nowhere }) []
some_tree ConstPhrase = (record { name = (record { text = []; place = nowhere }); equal = nowhere; value = some_expr; semicolon = nowhere })
some_tree ConstsPhrase = []
some_tree TypeDeclPhrase = record { name = (record { text = []; place = nowhere }); equal = nowhere; meaning = (roll-TypeTree (TypeTree-F.Name (record { text = []; place = nowhere }))); semicolon = nowhere }
some_tree TypeDeclsPhrase = []
some_tree VarIdPhrase = record { name = (record { text = []; place = nowhere }); address = None }
some_tree AddressPhrase = None
some_tree VarPhrase = record { first = record { name = (record { text = []; place = nowhere }); address = None }; more = []; colon = nowhere; of = (roll-TypeTree (TypeTree-F.Name (record { text = []; place = nowhere }))); semicolon = nowhere }
some_tree CommaVarIdsPhrase = []
some_tree VarsPhrase = []
some_tree DeclsPhrase = []
some_tree ProcedurePhrase = record { procedure = nowhere; name = (record { text = []; place = nowhere }); params = None; answer = None; semicolon = nowhere; local = (record { declarations = []; begin = nowhere; body = (roll-Body (record { first = (roll-Statement Statement-F.Empty); more = [] })) }); end = nowhere; end_name = (record { text = []; place = nowhere }); end_semicolon = nowhere }
some_tree ProcessPhrase = record { process = nowhere; name = (record { text = []; place = nowhere }); params = None; semicolon = nowhere; local = (record { declarations = []; begin = nowhere; body = (roll-Body (record { first = (roll-Statement Statement-F.Empty); more = [] })) }); end = nowhere; end_name = (record { text = []; place = nowhere }); end_semicolon = nowhere }
some_tree DriverPhrase = record { process = nowhere; name = (record { text = []; place = nowhere }); bracket = (record { opening = nowhere; value = some_expr; closing = nowhere }); semicolon = nowhere; local = (record { declarations = []; begin = nowhere; body = (roll-Body (record { first = (roll-Statement Statement-F.Empty); more = [] })) }); end = nowhere; end_name = (record { text = []; place = nowhere }); end_semicolon = nowhere }
some_tree ParamsPhrase = None
some_tree AnswerPhrase = None
some_tree SectionPhrase = record { mode = None; names = (record { first = (record { text = []; place = nowhere }); more = [] }); colon = nowhere; of = (record { text = []; place = nowhere }) }
some_tree SectionsPhrase = []
some_tree PlainPartsPhrase = []
some_tree FacePartsPhrase = []
some_tree DevicePartsPhrase = []
some_tree BegunPhrase = None
some_tree DefinesPhrase = None
some_tree UsesPhrase = None
some_tree ModulePhrase = roll-Module (Module-F.Interface (record { interface_word = nowhere; module_word = nowhere; name = (record { text = []; place = nowhere }); semicolon = nowhere; lists = record { define = None; use_ = None }; block = record { parts = []; body = None }; end = nowhere; end_name = (record { text = []; place = nowhere }); end_semicolon = nowhere }))
some_tree ProgramPhrase = tree.Device (record { device_word = nowhere; module_word = nowhere; name = (record { text = []; place = nowhere }); bracket = (record { opening = nowhere; value = some_expr; closing = nowhere }); semicolon = nowhere; block = record { parts = []; body = None }; end = nowhere; end_name = (record { text = []; place = nowhere }); dot = nowhere })

abbrev some_data : (class : Class) → Data class
some_data (ReservedClass reserved) = tt
some_data NameClass = []
some_data NumberClass = 0
some_data CharacterClass = 0
some_data TextClass = []
some_data (SymbolClass symbol) = tt

pub some_trees : (stack : Stack) → Trees stack
some_trees [] = tt
some_trees (Take class ∷ stack) = ((some_data class, nowhere), some_trees stack)
some_trees (Sub d phrase ∷ stack) = (some_tree phrase, some_trees stack)
