-- The grammar, factored so that the next token decides how to go on: phrases, the rules of each, and what they leave to
-- be read.
use Rattle.std.specs.Prelude.{ℕ, suc, Bool, true, false, List, ◌∷◌}
use Rattle.mc_tree.specs.declared.token.Reserved.TheVariants.{ArrayWord, BeginWord, CaseWord, ConstWord, DefineWord, DeviceWord, DoWord, ElseWord, ElsifWord, EndWord, ExitWord, IfWord, InterfaceWord, LoopWord, ModuleWord, NotWord, OfWord, ProcedureWord, ProcessWord, RecordWord, RepeatWord, ThenWord, TypeWord, UntilWord, UseWord, VarWord, WhenWord, WhileWord}
use Rattle.mc_tree.specs.declared.token.Symbol.TheVariants.{Equal, LeftParen, RightParen, LeftBracket, RightBracket, Comma, Semicolon, Colon, Becomes, Dot}
use Rattle.mc_tree.specs.declared.expression.Relation.{Relation}
use Rattle.mc_tree.specs.declared.expression.Sign.{Sign}
use Rattle.mc_tree.specs.declared.expression.Adding.{Adding}
use Rattle.mc_tree.specs.declared.expression.Multiplying.{Multiplying}
use Rattle.mc_tree.specs.Classes.{Class, ReservedClass, NameClass, NumberClass, CharacterClass, TextClass, SymbolClass, class_of}
use Rattle.mc_tree.specs.Expressions.{relation_symbol, sign_symbol, adding_kind, multiplying_kind}

pub data Phrase : Type 0 where
  ExprPhrase ExprTailPhrase SimplePhrase SimpleTailPhrase TermPhrase TermTailPhrase FactorPhrase BitsTailPhrase : Phrase
  ElementPhrase ElementTailPhrase CommaElementsPhrase CommaExprsPhrase FactorTailPhrase SelectorsPhrase StatementPhrase StatementsPhrase : Phrase
  StatementTailPhrase AssigningPhrase ElsifsPhrase ElsePhrase ExitsPhrase LastBodyPhrase ArmPhrase ArmsPhrase : Phrase
  TypePhrase RangePhrase CommaRangesPhrase IdsPhrase CommaIdsPhrase FieldsPhrase MoreFieldsPhrase DeclPhrase : Phrase
  ConstPhrase ConstsPhrase TypeDeclPhrase TypeDeclsPhrase VarIdPhrase AddressPhrase VarPhrase CommaVarIdsPhrase : Phrase
  VarsPhrase DeclsPhrase ProcedurePhrase ProcessPhrase DriverPhrase ParamsPhrase AnswerPhrase SectionPhrase : Phrase
  SectionsPhrase PlainPartsPhrase FacePartsPhrase DevicePartsPhrase BegunPhrase DefinesPhrase UsesPhrase ModulePhrase : Phrase
  ProgramPhrase : Phrase

-- How a phrase begins: with a token of its own, or as a phrase of another name does.
pub data Rule : Phrase → Type 0 where
  ExprBy : Rule SimplePhrase → Rule ExprPhrase
  Compare : Relation → Rule ExprTailPhrase
  Signed : Sign → Rule SimplePhrase
  SimpleBy : Rule TermPhrase → Rule SimplePhrase
  Add : Adding → Rule SimpleTailPhrase
  TermBy : Rule FactorPhrase → Rule TermPhrase
  Multiply : Multiplying → Rule TermTailPhrase
  NumberFactor : Rule FactorPhrase
  CharacterFactor : Rule FactorPhrase
  TextFactor : Rule FactorPhrase
  NameFactor : Rule FactorPhrase
  GroupFactor : Rule FactorPhrase
  NotFactor : Rule FactorPhrase
  BitsFactor : Rule FactorPhrase
  NoBits : Rule BitsTailPhrase
  BitsBy : Rule ElementPhrase → Rule BitsTailPhrase
  ElementBy : Rule ExprPhrase → Rule ElementPhrase
  LastElement : Rule ElementTailPhrase
  MoreElements : Rule CommaElementsPhrase
  MoreExprs : Rule CommaExprsPhrase
  CallFactor : Rule FactorTailPhrase
  FieldFactor : Rule FactorTailPhrase
  IndexFactor : Rule FactorTailPhrase
  FieldSelector : Rule SelectorsPhrase
  IndexSelector : Rule SelectorsPhrase
  NameStatement : Rule StatementPhrase
  IfStatement : Rule StatementPhrase
  WhileStatement : Rule StatementPhrase
  RepeatStatement : Rule StatementPhrase
  LoopStatement : Rule StatementPhrase
  CaseStatement : Rule StatementPhrase
  MoreStatements : Rule StatementsPhrase
  CallStatement : Rule StatementTailPhrase
  AssignStatement : Rule StatementTailPhrase
  FieldStatement : Rule StatementTailPhrase
  IndexStatement : Rule StatementTailPhrase
  AssignTo : Rule AssigningPhrase
  FieldTo : Rule AssigningPhrase
  IndexTo : Rule AssigningPhrase
  MoreElsifs : Rule ElsifsPhrase
  ElseBody : Rule ElsePhrase
  MoreExits : Rule ExitsPhrase
  DoBody : Rule LastBodyPhrase
  ArmBy : Rule ExprPhrase → Rule ArmPhrase
  MoreArms : Rule ArmsPhrase
  NamedType : Rule TypePhrase
  ValuesType : Rule TypePhrase
  ArrayType : Rule TypePhrase
  RecordType : Rule TypePhrase
  RangeBy : Rule ExprPhrase → Rule RangePhrase
  MoreRanges : Rule CommaRangesPhrase
  FirstId : Rule IdsPhrase
  MoreIds : Rule CommaIdsPhrase
  FieldsBy : Rule IdsPhrase → Rule FieldsPhrase
  NextFields : Rule MoreFieldsPhrase
  ConstDecl : Rule DeclPhrase
  TypesDecl : Rule DeclPhrase
  VarDecl : Rule DeclPhrase
  OneConst : Rule ConstPhrase
  ConstsBy : Rule ConstPhrase → Rule ConstsPhrase
  OneType : Rule TypeDeclPhrase
  TypeDeclsBy : Rule TypeDeclPhrase → Rule TypeDeclsPhrase
  OneVarId : Rule VarIdPhrase
  AddressBracket : Rule AddressPhrase
  VarBy : Rule VarIdPhrase → Rule VarPhrase
  MoreVarIds : Rule CommaVarIdsPhrase
  VarsBy : Rule VarPhrase → Rule VarsPhrase
  DeclsBy : Rule DeclPhrase → Rule DeclsPhrase
  OneProcedure : Rule ProcedurePhrase
  OneProcess : Rule ProcessPhrase
  OneDriver : Rule DriverPhrase
  SomeParams : Rule ParamsPhrase
  SomeAnswer : Rule AnswerPhrase
  ConstSection : Rule SectionPhrase
  VarSection : Rule SectionPhrase
  SectionBy : Rule IdsPhrase → Rule SectionPhrase
  MoreSections : Rule SectionsPhrase
  PlainDecl : Rule DeclPhrase → Rule PlainPartsPhrase
  PlainProcedure : Rule ProcedurePhrase → Rule PlainPartsPhrase
  PlainProcess : Rule ProcessPhrase → Rule PlainPartsPhrase
  PlainInner : Rule ModulePhrase → Rule PlainPartsPhrase
  FaceDecl : Rule DeclPhrase → Rule FacePartsPhrase
  FaceProcedure : Rule ProcedurePhrase → Rule FacePartsPhrase
  DeviceDecl : Rule DeclPhrase → Rule DevicePartsPhrase
  DeviceProcedure : Rule ProcedurePhrase → Rule DevicePartsPhrase
  DeviceDriver : Rule DriverPhrase → Rule DevicePartsPhrase
  SomeBegun : Rule BegunPhrase
  SomeDefines : Rule DefinesPhrase
  SomeUses : Rule UsesPhrase
  PlainInside : Rule ModulePhrase
  InterfaceInside : Rule ModulePhrase
  DeviceInside : Rule ModulePhrase
  PlainWhole : Rule ProgramPhrase
  DeviceWhole : Rule ProgramPhrase

-- the class of the token that the rule begins with
abbrev pub first : {phrase : Phrase} → Rule phrase → Class
first (ExprBy r) = first r
first (Compare op) = SymbolClass (relation_symbol op)
first (Signed op) = SymbolClass (sign_symbol op)
first (SimpleBy r) = first r
first (Add op) = class_of (adding_kind op)
first (TermBy r) = first r
first (Multiply op) = class_of (multiplying_kind op)
first NumberFactor = NumberClass
first CharacterFactor = CharacterClass
first TextFactor = TextClass
first NameFactor = NameClass
first GroupFactor = SymbolClass LeftParen
first NotFactor = ReservedClass NotWord
first BitsFactor = SymbolClass LeftBracket
first NoBits = SymbolClass RightBracket
first (BitsBy r) = first r
first (ElementBy r) = first r
first LastElement = SymbolClass Colon
first MoreElements = SymbolClass Comma
first MoreExprs = SymbolClass Comma
first CallFactor = SymbolClass LeftParen
first FieldFactor = SymbolClass Dot
first IndexFactor = SymbolClass LeftBracket
first FieldSelector = SymbolClass Dot
first IndexSelector = SymbolClass LeftBracket
first NameStatement = NameClass
first IfStatement = ReservedClass IfWord
first WhileStatement = ReservedClass WhileWord
first RepeatStatement = ReservedClass RepeatWord
first LoopStatement = ReservedClass LoopWord
first CaseStatement = ReservedClass CaseWord
first MoreStatements = SymbolClass Semicolon
first CallStatement = SymbolClass LeftParen
first AssignStatement = SymbolClass Becomes
first FieldStatement = SymbolClass Dot
first IndexStatement = SymbolClass LeftBracket
first AssignTo = SymbolClass Becomes
first FieldTo = SymbolClass Dot
first IndexTo = SymbolClass LeftBracket
first MoreElsifs = ReservedClass ElsifWord
first ElseBody = ReservedClass ElseWord
first MoreExits = ReservedClass WhenWord
first DoBody = ReservedClass DoWord
first (ArmBy r) = first r
first MoreArms = SymbolClass Semicolon
first NamedType = NameClass
first ValuesType = SymbolClass LeftParen
first ArrayType = ReservedClass ArrayWord
first RecordType = ReservedClass RecordWord
first (RangeBy r) = first r
first MoreRanges = SymbolClass Comma
first FirstId = NameClass
first MoreIds = SymbolClass Comma
first (FieldsBy r) = first r
first NextFields = SymbolClass Semicolon
first ConstDecl = ReservedClass ConstWord
first TypesDecl = ReservedClass TypeWord
first VarDecl = ReservedClass VarWord
first OneConst = NameClass
first (ConstsBy r) = first r
first OneType = NameClass
first (TypeDeclsBy r) = first r
first OneVarId = NameClass
first AddressBracket = SymbolClass LeftBracket
first (VarBy r) = first r
first MoreVarIds = SymbolClass Comma
first (VarsBy r) = first r
first (DeclsBy r) = first r
first OneProcedure = ReservedClass ProcedureWord
first OneProcess = ReservedClass ProcessWord
first OneDriver = ReservedClass ProcessWord
first SomeParams = SymbolClass LeftParen
first SomeAnswer = SymbolClass Colon
first ConstSection = ReservedClass ConstWord
first VarSection = ReservedClass VarWord
first (SectionBy r) = first r
first MoreSections = SymbolClass Semicolon
first (PlainDecl r) = first r
first (PlainProcedure r) = first r
first (PlainProcess r) = first r
first (PlainInner r) = first r
first (FaceDecl r) = first r
first (FaceProcedure r) = first r
first (DeviceDecl r) = first r
first (DeviceProcedure r) = first r
first (DeviceDriver r) = first r
first SomeBegun = ReservedClass BeginWord
first SomeDefines = ReservedClass DefineWord
first SomeUses = ReservedClass UseWord
first PlainInside = ReservedClass ModuleWord
first InterfaceInside = ReservedClass InterfaceWord
first DeviceInside = ReservedClass DeviceWord
first PlainWhole = ReservedClass ModuleWord
first DeviceWhole = ReservedClass DeviceWord

-- What is still to be read: a token of a class, or a phrase with as many counting nodes around it.
pub data Slot : Type 0 where
  Take : Class → Slot
  Sub : ℕ → Phrase → Slot

abbrev pub Stack : Type 0
Stack = List Slot

-- What is to be read once the rule's first token is, in front of what was to be read behind the phrase. The number is how
-- many counting nodes stand around the phrase.
abbrev pub parts : {phrase : Phrase} → Rule phrase → ℕ → Stack → Stack
parts (ExprBy r) d stack = parts r d (Sub d ExprTailPhrase ∷ stack)
parts (Compare op) d stack = Sub d SimplePhrase ∷ stack
parts (Signed op) d stack = Sub d TermPhrase ∷ Sub d SimpleTailPhrase ∷ stack
parts (SimpleBy r) d stack = parts r d (Sub d SimpleTailPhrase ∷ stack)
parts (Add op) d stack = Sub d TermPhrase ∷ Sub d SimpleTailPhrase ∷ stack
parts (TermBy r) d stack = parts r d (Sub d TermTailPhrase ∷ stack)
parts (Multiply op) d stack = Sub d FactorPhrase ∷ Sub d TermTailPhrase ∷ stack
parts NumberFactor d stack = stack
parts CharacterFactor d stack = stack
parts TextFactor d stack = stack
parts NameFactor d stack = Sub (suc d) FactorTailPhrase ∷ stack
parts GroupFactor d stack = Sub (suc d) ExprPhrase ∷ Take (SymbolClass RightParen) ∷ stack
parts NotFactor d stack = Sub (suc d) FactorPhrase ∷ stack
parts BitsFactor d stack = Sub (suc d) BitsTailPhrase ∷ stack
parts NoBits d stack = stack
parts (BitsBy r) d stack = parts r d (Sub d CommaElementsPhrase ∷ Take (SymbolClass RightBracket) ∷ stack)
parts (ElementBy r) d stack = parts r d (Sub d ElementTailPhrase ∷ stack)
parts LastElement d stack = Sub d ExprPhrase ∷ stack
parts MoreElements d stack = Sub d ElementPhrase ∷ Sub d CommaElementsPhrase ∷ stack
parts MoreExprs d stack = Sub d ExprPhrase ∷ Sub d CommaExprsPhrase ∷ stack
parts CallFactor d stack = Sub d ExprPhrase ∷ Sub d CommaExprsPhrase ∷ Take (SymbolClass RightParen) ∷ stack
parts FieldFactor d stack = Take NameClass ∷ Sub d SelectorsPhrase ∷ stack
parts IndexFactor d stack = Sub d ExprPhrase ∷ Sub d CommaExprsPhrase ∷ Take (SymbolClass RightBracket) ∷ Sub d SelectorsPhrase ∷ stack
parts FieldSelector d stack = Take NameClass ∷ Sub d SelectorsPhrase ∷ stack
parts IndexSelector d stack = Sub d ExprPhrase ∷ Sub d CommaExprsPhrase ∷ Take (SymbolClass RightBracket) ∷ Sub d SelectorsPhrase ∷ stack
parts NameStatement d stack = Sub (suc d) StatementTailPhrase ∷ stack
parts IfStatement d stack = Sub (suc d) ExprPhrase ∷ Take (ReservedClass ThenWord) ∷ Sub (suc d) StatementPhrase ∷ Sub (suc d) StatementsPhrase ∷ Sub (suc d) ElsifsPhrase ∷ Sub (suc d) ElsePhrase ∷ Take (ReservedClass EndWord) ∷ stack
parts WhileStatement d stack = Sub (suc d) ExprPhrase ∷ Take (ReservedClass DoWord) ∷ Sub (suc d) StatementPhrase ∷ Sub (suc d) StatementsPhrase ∷ Take (ReservedClass EndWord) ∷ stack
parts RepeatStatement d stack = Sub (suc d) StatementPhrase ∷ Sub (suc d) StatementsPhrase ∷ Take (ReservedClass UntilWord) ∷ Sub (suc d) ExprPhrase ∷ stack
parts LoopStatement d stack = Sub (suc d) StatementPhrase ∷ Sub (suc d) StatementsPhrase ∷ Sub (suc d) ExitsPhrase ∷ Take (ReservedClass EndWord) ∷ stack
parts CaseStatement d stack = Sub (suc d) ExprPhrase ∷ Take (ReservedClass OfWord) ∷ Sub (suc d) ArmPhrase ∷ Sub (suc d) ArmsPhrase ∷ Take (ReservedClass EndWord) ∷ stack
parts MoreStatements d stack = Sub d StatementPhrase ∷ Sub d StatementsPhrase ∷ stack
parts CallStatement d stack = Sub d ExprPhrase ∷ Sub d CommaExprsPhrase ∷ Take (SymbolClass RightParen) ∷ stack
parts AssignStatement d stack = Sub d ExprPhrase ∷ stack
parts FieldStatement d stack = Take NameClass ∷ Sub d AssigningPhrase ∷ stack
parts IndexStatement d stack = Sub d ExprPhrase ∷ Sub d CommaExprsPhrase ∷ Take (SymbolClass RightBracket) ∷ Sub d AssigningPhrase ∷ stack
parts AssignTo d stack = Sub d ExprPhrase ∷ stack
parts FieldTo d stack = Take NameClass ∷ Sub d AssigningPhrase ∷ stack
parts IndexTo d stack = Sub d ExprPhrase ∷ Sub d CommaExprsPhrase ∷ Take (SymbolClass RightBracket) ∷ Sub d AssigningPhrase ∷ stack
parts MoreElsifs d stack = Sub d ExprPhrase ∷ Take (ReservedClass ThenWord) ∷ Sub d StatementPhrase ∷ Sub d StatementsPhrase ∷ Sub d ElsifsPhrase ∷ stack
parts ElseBody d stack = Sub d StatementPhrase ∷ Sub d StatementsPhrase ∷ stack
parts MoreExits d stack = Sub d ExprPhrase ∷ Sub d LastBodyPhrase ∷ Take (ReservedClass ExitWord) ∷ Sub d StatementPhrase ∷ Sub d StatementsPhrase ∷ Sub d ExitsPhrase ∷ stack
parts DoBody d stack = Sub d StatementPhrase ∷ Sub d StatementsPhrase ∷ stack
parts (ArmBy r) d stack = parts r d (Sub d CommaExprsPhrase ∷ Take (SymbolClass Colon) ∷ Take (ReservedClass BeginWord) ∷ Sub d StatementPhrase ∷ Sub d StatementsPhrase ∷ Take (ReservedClass EndWord) ∷ stack)
parts MoreArms d stack = Sub d ArmPhrase ∷ Sub d ArmsPhrase ∷ stack
parts NamedType d stack = stack
parts ValuesType d stack = Sub (suc d) IdsPhrase ∷ Take (SymbolClass RightParen) ∷ stack
parts ArrayType d stack = Sub (suc d) RangePhrase ∷ Sub (suc d) CommaRangesPhrase ∷ Take (ReservedClass OfWord) ∷ Sub (suc d) TypePhrase ∷ stack
parts RecordType d stack = Sub (suc d) FieldsPhrase ∷ Sub (suc d) MoreFieldsPhrase ∷ Take (ReservedClass EndWord) ∷ stack
parts (RangeBy r) d stack = parts r d (Take (SymbolClass Colon) ∷ Sub d ExprPhrase ∷ stack)
parts MoreRanges d stack = Sub d RangePhrase ∷ Sub d CommaRangesPhrase ∷ stack
parts FirstId d stack = Sub d CommaIdsPhrase ∷ stack
parts MoreIds d stack = Take NameClass ∷ Sub d CommaIdsPhrase ∷ stack
parts (FieldsBy r) d stack = parts r d (Take (SymbolClass Colon) ∷ Sub d TypePhrase ∷ stack)
parts NextFields d stack = Sub d FieldsPhrase ∷ Sub d MoreFieldsPhrase ∷ stack
parts ConstDecl d stack = Sub d ConstPhrase ∷ Sub d ConstsPhrase ∷ stack
parts TypesDecl d stack = Sub d TypeDeclPhrase ∷ Sub d TypeDeclsPhrase ∷ stack
parts VarDecl d stack = Sub d VarPhrase ∷ Sub d VarsPhrase ∷ stack
parts OneConst d stack = Take (SymbolClass Equal) ∷ Sub d ExprPhrase ∷ Take (SymbolClass Semicolon) ∷ stack
parts (ConstsBy r) d stack = parts r d (Sub d ConstsPhrase ∷ stack)
parts OneType d stack = Take (SymbolClass Equal) ∷ Sub d TypePhrase ∷ Take (SymbolClass Semicolon) ∷ stack
parts (TypeDeclsBy r) d stack = parts r d (Sub d TypeDeclsPhrase ∷ stack)
parts OneVarId d stack = Sub d AddressPhrase ∷ stack
parts AddressBracket d stack = Sub d ExprPhrase ∷ Take (SymbolClass RightBracket) ∷ stack
parts (VarBy r) d stack = parts r d (Sub d CommaVarIdsPhrase ∷ Take (SymbolClass Colon) ∷ Sub d TypePhrase ∷ Take (SymbolClass Semicolon) ∷ stack)
parts MoreVarIds d stack = Sub d VarIdPhrase ∷ Sub d CommaVarIdsPhrase ∷ stack
parts (VarsBy r) d stack = parts r d (Sub d VarsPhrase ∷ stack)
parts (DeclsBy r) d stack = parts r d (Sub d DeclsPhrase ∷ stack)
parts OneProcedure d stack = Take NameClass ∷ Sub d ParamsPhrase ∷ Sub d AnswerPhrase ∷ Take (SymbolClass Semicolon) ∷ Sub d DeclsPhrase ∷ Take (ReservedClass BeginWord) ∷ Sub d StatementPhrase ∷ Sub d StatementsPhrase ∷ Take (ReservedClass EndWord) ∷ Take NameClass ∷ Take (SymbolClass Semicolon) ∷ stack
parts OneProcess d stack = Take NameClass ∷ Sub d ParamsPhrase ∷ Take (SymbolClass Semicolon) ∷ Sub d DeclsPhrase ∷ Take (ReservedClass BeginWord) ∷ Sub d StatementPhrase ∷ Sub d StatementsPhrase ∷ Take (ReservedClass EndWord) ∷ Take NameClass ∷ Take (SymbolClass Semicolon) ∷ stack
parts OneDriver d stack = Take NameClass ∷ Take (SymbolClass LeftBracket) ∷ Sub d ExprPhrase ∷ Take (SymbolClass RightBracket) ∷ Take (SymbolClass Semicolon) ∷ Sub d DeclsPhrase ∷ Take (ReservedClass BeginWord) ∷ Sub d StatementPhrase ∷ Sub d StatementsPhrase ∷ Take (ReservedClass EndWord) ∷ Take NameClass ∷ Take (SymbolClass Semicolon) ∷ stack
parts SomeParams d stack = Sub d SectionPhrase ∷ Sub d SectionsPhrase ∷ Take (SymbolClass RightParen) ∷ stack
parts SomeAnswer d stack = Take NameClass ∷ stack
parts ConstSection d stack = Sub d IdsPhrase ∷ Take (SymbolClass Colon) ∷ Take NameClass ∷ stack
parts VarSection d stack = Sub d IdsPhrase ∷ Take (SymbolClass Colon) ∷ Take NameClass ∷ stack
parts (SectionBy r) d stack = parts r d (Take (SymbolClass Colon) ∷ Take NameClass ∷ stack)
parts MoreSections d stack = Sub d SectionPhrase ∷ Sub d SectionsPhrase ∷ stack
parts (PlainDecl r) d stack = parts r d (Sub d PlainPartsPhrase ∷ stack)
parts (PlainProcedure r) d stack = parts r d (Sub d PlainPartsPhrase ∷ stack)
parts (PlainProcess r) d stack = parts r d (Sub d PlainPartsPhrase ∷ stack)
parts (PlainInner r) d stack = parts r d (Sub d PlainPartsPhrase ∷ stack)
parts (FaceDecl r) d stack = parts r d (Sub d FacePartsPhrase ∷ stack)
parts (FaceProcedure r) d stack = parts r d (Sub d FacePartsPhrase ∷ stack)
parts (DeviceDecl r) d stack = parts r d (Sub d DevicePartsPhrase ∷ stack)
parts (DeviceProcedure r) d stack = parts r d (Sub d DevicePartsPhrase ∷ stack)
parts (DeviceDriver r) d stack = parts r d (Sub d DevicePartsPhrase ∷ stack)
parts SomeBegun d stack = Sub d StatementPhrase ∷ Sub d StatementsPhrase ∷ stack
parts SomeDefines d stack = Sub d IdsPhrase ∷ Take (SymbolClass Semicolon) ∷ stack
parts SomeUses d stack = Sub d IdsPhrase ∷ Take (SymbolClass Semicolon) ∷ stack
parts PlainInside d stack = Take NameClass ∷ Take (SymbolClass Semicolon) ∷ Sub (suc d) DefinesPhrase ∷ Sub (suc d) UsesPhrase ∷ Sub (suc d) PlainPartsPhrase ∷ Sub (suc d) BegunPhrase ∷ Take (ReservedClass EndWord) ∷ Take NameClass ∷ Take (SymbolClass Semicolon) ∷ stack
parts InterfaceInside d stack = Take (ReservedClass ModuleWord) ∷ Take NameClass ∷ Take (SymbolClass Semicolon) ∷ Sub (suc d) DefinesPhrase ∷ Sub (suc d) UsesPhrase ∷ Sub (suc d) FacePartsPhrase ∷ Sub (suc d) BegunPhrase ∷ Take (ReservedClass EndWord) ∷ Take NameClass ∷ Take (SymbolClass Semicolon) ∷ stack
parts DeviceInside d stack = Take (ReservedClass ModuleWord) ∷ Take NameClass ∷ Take (SymbolClass LeftBracket) ∷ Sub (suc d) ExprPhrase ∷ Take (SymbolClass RightBracket) ∷ Take (SymbolClass Semicolon) ∷ Sub (suc d) DefinesPhrase ∷ Sub (suc d) UsesPhrase ∷ Sub (suc d) DevicePartsPhrase ∷ Sub (suc d) BegunPhrase ∷ Take (ReservedClass EndWord) ∷ Take NameClass ∷ Take (SymbolClass Semicolon) ∷ stack
parts PlainWhole d stack = Take NameClass ∷ Take (SymbolClass Semicolon) ∷ Sub d PlainPartsPhrase ∷ Sub d BegunPhrase ∷ Take (ReservedClass EndWord) ∷ Take NameClass ∷ Take (SymbolClass Dot) ∷ stack
parts DeviceWhole d stack = Take (ReservedClass ModuleWord) ∷ Take NameClass ∷ Take (SymbolClass LeftBracket) ∷ Sub d ExprPhrase ∷ Take (SymbolClass RightBracket) ∷ Take (SymbolClass Semicolon) ∷ Sub d DevicePartsPhrase ∷ Sub d BegunPhrase ∷ Take (ReservedClass EndWord) ∷ Take NameClass ∷ Take (SymbolClass Dot) ∷ stack

-- the depth of the node that the rule's first token begins, 0 where it begins none
abbrev pub depth_of_first : {phrase : Phrase} → Rule phrase → ℕ → ℕ
depth_of_first (ExprBy r) d = depth_of_first r d
depth_of_first (SimpleBy r) d = depth_of_first r d
depth_of_first (TermBy r) d = depth_of_first r d
depth_of_first NumberFactor d = suc d
depth_of_first CharacterFactor d = suc d
depth_of_first TextFactor d = suc d
depth_of_first NameFactor d = suc d
depth_of_first GroupFactor d = suc d
depth_of_first NotFactor d = suc d
depth_of_first BitsFactor d = suc d
depth_of_first (BitsBy r) d = depth_of_first r d
depth_of_first (ElementBy r) d = depth_of_first r d
depth_of_first NameStatement d = suc d
depth_of_first IfStatement d = suc d
depth_of_first WhileStatement d = suc d
depth_of_first RepeatStatement d = suc d
depth_of_first LoopStatement d = suc d
depth_of_first CaseStatement d = suc d
depth_of_first (ArmBy r) d = depth_of_first r d
depth_of_first NamedType d = suc d
depth_of_first ValuesType d = suc d
depth_of_first ArrayType d = suc d
depth_of_first RecordType d = suc d
depth_of_first (RangeBy r) d = depth_of_first r d
depth_of_first (FieldsBy r) d = depth_of_first r d
depth_of_first (ConstsBy r) d = depth_of_first r d
depth_of_first (TypeDeclsBy r) d = depth_of_first r d
depth_of_first (VarBy r) d = depth_of_first r d
depth_of_first (VarsBy r) d = depth_of_first r d
depth_of_first (DeclsBy r) d = depth_of_first r d
depth_of_first (SectionBy r) d = depth_of_first r d
depth_of_first (PlainDecl r) d = depth_of_first r d
depth_of_first (PlainProcedure r) d = depth_of_first r d
depth_of_first (PlainProcess r) d = depth_of_first r d
depth_of_first (PlainInner r) d = depth_of_first r d
depth_of_first (FaceDecl r) d = depth_of_first r d
depth_of_first (FaceProcedure r) d = depth_of_first r d
depth_of_first (DeviceDecl r) d = depth_of_first r d
depth_of_first (DeviceProcedure r) d = depth_of_first r d
depth_of_first (DeviceDriver r) d = depth_of_first r d
depth_of_first PlainInside d = suc d
depth_of_first InterfaceInside d = suc d
depth_of_first DeviceInside d = suc d
depth_of_first _ d = 0

-- a phrase without tokens
abbrev pub may_be_empty : Phrase → Bool
may_be_empty ExprPhrase = false
may_be_empty ExprTailPhrase = true
may_be_empty SimplePhrase = false
may_be_empty SimpleTailPhrase = true
may_be_empty TermPhrase = false
may_be_empty TermTailPhrase = true
may_be_empty FactorPhrase = false
may_be_empty BitsTailPhrase = false
may_be_empty ElementPhrase = false
may_be_empty ElementTailPhrase = true
may_be_empty CommaElementsPhrase = true
may_be_empty CommaExprsPhrase = true
may_be_empty FactorTailPhrase = true
may_be_empty SelectorsPhrase = true
may_be_empty StatementPhrase = true
may_be_empty StatementsPhrase = true
may_be_empty StatementTailPhrase = true
may_be_empty AssigningPhrase = false
may_be_empty ElsifsPhrase = true
may_be_empty ElsePhrase = true
may_be_empty ExitsPhrase = true
may_be_empty LastBodyPhrase = true
may_be_empty ArmPhrase = false
may_be_empty ArmsPhrase = true
may_be_empty TypePhrase = false
may_be_empty RangePhrase = false
may_be_empty CommaRangesPhrase = true
may_be_empty IdsPhrase = false
may_be_empty CommaIdsPhrase = true
may_be_empty FieldsPhrase = false
may_be_empty MoreFieldsPhrase = true
may_be_empty DeclPhrase = false
may_be_empty ConstPhrase = false
may_be_empty ConstsPhrase = true
may_be_empty TypeDeclPhrase = false
may_be_empty TypeDeclsPhrase = true
may_be_empty VarIdPhrase = false
may_be_empty AddressPhrase = true
may_be_empty VarPhrase = false
may_be_empty CommaVarIdsPhrase = true
may_be_empty VarsPhrase = true
may_be_empty DeclsPhrase = true
may_be_empty ProcedurePhrase = false
may_be_empty ProcessPhrase = false
may_be_empty DriverPhrase = false
may_be_empty ParamsPhrase = true
may_be_empty AnswerPhrase = true
may_be_empty SectionPhrase = false
may_be_empty SectionsPhrase = true
may_be_empty PlainPartsPhrase = true
may_be_empty FacePartsPhrase = true
may_be_empty DevicePartsPhrase = true
may_be_empty BegunPhrase = true
may_be_empty DefinesPhrase = true
may_be_empty UsesPhrase = true
may_be_empty ModulePhrase = false
may_be_empty ProgramPhrase = false
