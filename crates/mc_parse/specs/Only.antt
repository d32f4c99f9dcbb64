-- Phrases that go on with a token of one class alone.
use Rattle.std.specs.Prelude.{◌≡◌, ◌≢◌, None, refl}
use Rattle.mc_tree.specs.declared.token.Reserved.TheVariants.{BeginWord, DefineWord, DoWord, ElseWord, ElsifWord, ProcedureWord, ProcessWord, UseWord, WhenWord}
use Rattle.mc_tree.specs.declared.token.Symbol.TheVariants.{Colon, Comma, LeftBracket, LeftParen, Semicolon}
use Rattle.mc_tree.specs.Classes.{Class, ReservedClass, NameClass, SymbolClass}
use Rattle.mc_tree.specs.Grammar.{Phrase, CommaExprsPhrase, CommaElementsPhrase, ElementTailPhrase, StatementsPhrase, ElsifsPhrase, ElsePhrase, ExitsPhrase, LastBodyPhrase, ArmsPhrase, CommaRangesPhrase, CommaIdsPhrase, MoreFieldsPhrase, ConstsPhrase, TypeDeclsPhrase, VarsPhrase, AddressPhrase, CommaVarIdsPhrase, ParamsPhrase, AnswerPhrase, SectionsPhrase, BegunPhrase, DefinesPhrase, UsesPhrase, IdsPhrase, ConstPhrase, TypeDeclPhrase, VarIdPhrase, ProcedurePhrase, ProcessPhrase, DriverPhrase}
use Rattle.mc_tree.specs.NextRules.{next}

-- the phrase goes on with a token of the class alone
abbrev pub GoesOnBy : Phrase → Class → Type 0
GoesOnBy phrase class = (c : Class) → c ≢ class → next phrase c ≡ None

pub comma_exprs_by : GoesOnBy CommaExprsPhrase (SymbolClass Comma)
comma_exprs_by (SymbolClass Comma) h = absurd (h refl)
comma_exprs_by c h = refl

pub comma_elements_by : GoesOnBy CommaElementsPhrase (SymbolClass Comma)
comma_elements_by (SymbolClass Comma) h = absurd (h refl)
comma_elements_by c h = refl

pub element_tail_by : GoesOnBy ElementTailPhrase (SymbolClass Colon)
element_tail_by (SymbolClass Colon) h = absurd (h refl)
element_tail_by c h = refl

pub statements_by : GoesOnBy StatementsPhrase (SymbolClass Semicolon)
statements_by (SymbolClass Semicolon) h = absurd (h refl)
statements_by c h = refl

pub elsifs_by : GoesOnBy ElsifsPhrase (ReservedClass ElsifWord)
elsifs_by (ReservedClass ElsifWord) h = absurd (h refl)
elsifs_by c h = refl

pub else_by : GoesOnBy ElsePhrase (ReservedClass ElseWord)
else_by (ReservedClass ElseWord) h = absurd (h refl)
else_by c h = refl

pub exits_by : GoesOnBy ExitsPhrase (ReservedClass WhenWord)
exits_by (ReservedClass WhenWord) h = absurd (h refl)
exits_by c h = refl

pub last_body_by : GoesOnBy LastBodyPhrase (ReservedClass DoWord)
last_body_by (ReservedClass DoWord) h = absurd (h refl)
last_body_by c h = refl

pub arms_by : GoesOnBy ArmsPhrase (SymbolClass Semicolon)
arms_by (SymbolClass Semicolon) h = absurd (h refl)
arms_by c h = refl

pub comma_ranges_by : GoesOnBy CommaRangesPhrase (SymbolClass Comma)
comma_ranges_by (SymbolClass Comma) h = absurd (h refl)
comma_ranges_by c h = refl

pub comma_ids_by : GoesOnBy CommaIdsPhrase (SymbolClass Comma)
comma_ids_by (SymbolClass Comma) h = absurd (h refl)
comma_ids_by c h = refl

pub more_fields_by : GoesOnBy MoreFieldsPhrase (SymbolClass Semicolon)
more_fields_by (SymbolClass Semicolon) h = absurd (h refl)
more_fields_by c h = refl

pub consts_by : GoesOnBy ConstsPhrase NameClass
consts_by NameClass h = absurd (h refl)
consts_by c h = refl

pub type_decls_by : GoesOnBy TypeDeclsPhrase NameClass
type_decls_by NameClass h = absurd (h refl)
type_decls_by c h = refl

pub vars_by : GoesOnBy VarsPhrase NameClass
vars_by NameClass h = absurd (h refl)
vars_by c h = refl

pub address_by : GoesOnBy AddressPhrase (SymbolClass LeftBracket)
address_by (SymbolClass LeftBracket) h = absurd (h refl)
address_by c h = refl

pub comma_var_ids_by : GoesOnBy CommaVarIdsPhrase (SymbolClass Comma)
comma_var_ids_by (SymbolClass Comma) h = absurd (h refl)
comma_var_ids_by c h = refl

pub params_by : GoesOnBy ParamsPhrase (SymbolClass LeftParen)
params_by (SymbolClass LeftParen) h = absurd (h refl)
params_by c h = refl

pub answer_by : GoesOnBy AnswerPhrase (SymbolClass Colon)
answer_by (SymbolClass Colon) h = absurd (h refl)
answer_by c h = refl

pub sections_by : GoesOnBy SectionsPhrase (SymbolClass Semicolon)
sections_by (SymbolClass Semicolon) h = absurd (h refl)
sections_by c h = refl

pub begun_by : GoesOnBy BegunPhrase (ReservedClass BeginWord)
begun_by (ReservedClass BeginWord) h = absurd (h refl)
begun_by c h = refl

pub defines_by : GoesOnBy DefinesPhrase (ReservedClass DefineWord)
defines_by (ReservedClass DefineWord) h = absurd (h refl)
defines_by c h = refl

pub uses_by : GoesOnBy UsesPhrase (ReservedClass UseWord)
uses_by (ReservedClass UseWord) h = absurd (h refl)
uses_by c h = refl

pub ids_by : GoesOnBy IdsPhrase NameClass
ids_by NameClass h = absurd (h refl)
ids_by c h = refl

pub const_by : GoesOnBy ConstPhrase NameClass
const_by NameClass h = absurd (h refl)
const_by c h = refl

pub type_decl_by : GoesOnBy TypeDeclPhrase NameClass
type_decl_by NameClass h = absurd (h refl)
type_decl_by c h = refl

pub var_id_by : GoesOnBy VarIdPhrase NameClass
var_id_by NameClass h = absurd (h refl)
var_id_by c h = refl

pub procedure_by : GoesOnBy ProcedurePhrase (ReservedClass ProcedureWord)
procedure_by (ReservedClass ProcedureWord) h = absurd (h refl)
procedure_by c h = refl

pub process_by : GoesOnBy ProcessPhrase (ReservedClass ProcessWord)
process_by (ReservedClass ProcessWord) h = absurd (h refl)
process_by c h = refl

pub driver_by : GoesOnBy DriverPhrase (ReservedClass ProcessWord)
driver_by (ReservedClass ProcessWord) h = absurd (h refl)
driver_by c h = refl
