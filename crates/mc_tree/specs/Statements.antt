-- How statements are written, by the productions of the grammar.
use Rattle.std.specs.Prelude.{suc}
use Rattle.mc_tree.specs.declared.token.Kind.TheVariants.{Reserved as ReservedKind, Name}
use Rattle.mc_tree.specs.declared.token.Reserved.TheVariants.{BeginWord, CaseWord, DoWord, ElseWord, ElsifWord, EndWord, ExitWord, IfWord, LoopWord, OfWord, RepeatWord, ThenWord, UntilWord, WhenWord, WhileWord}
use Rattle.mc_tree.specs.declared.token.Symbol.TheVariants.{Comma, Semicolon, Colon, Becomes}
use Rattle.mc_tree.specs.declared.statement.Statement.{Statement}
use Rattle.mc_tree.specs.declared.statement.Arm.{Arm}
use Rattle.mc_tree.specs.declared.statement.Body.{Body}
use Rattle.mc_tree.specs.declared.statement.Case.{Case}
use Rattle.mc_tree.specs.declared.statement.Elsif.{Elsif}
use Rattle.mc_tree.specs.declared.statement.Exit.{Exit}
use Rattle.mc_tree.specs.declared.statement.If.{If}
use Rattle.mc_tree.specs.declared.statement.Loop.{Loop}
use Rattle.mc_tree.specs.declared.statement.Repeat.{Repeat}
use Rattle.mc_tree.specs.declared.statement.While.{While}
use Rattle.mc_tree.specs.declared.statement.Statement.TheOpen.{Statement-F, Arm-F, Body-F, Case-F, Elsif-F, Exit-F, If-F, Loop-F, Repeat-F, While-F}
use Rattle.mc_tree.specs.declared.statement.Statement.TheFolds.{fold-Statement, fold-Arm, fold-Body, fold-Case, fold-Elsif, fold-Exit, fold-If, fold-Loop, fold-Repeat, fold-While}
use Rattle.mc_tree.specs.Leaves.{Writes, begin, word, mark, each, maybe, after, after_word, itself}
use Rattle.mc_tree.specs.Expressions.{expr, args, designator}

abbrev pub StatementLayer : Type 0
StatementLayer = Statement-F Writes Writes Writes Writes Writes Writes Writes Writes Writes Writes

abbrev pub ArmLayer : Type 0
ArmLayer = Arm-F Writes Writes Writes Writes Writes Writes Writes Writes Writes Writes

abbrev pub BodyLayer : Type 0
BodyLayer = Body-F Writes Writes Writes Writes Writes Writes Writes Writes Writes Writes

abbrev pub CaseLayer : Type 0
CaseLayer = Case-F Writes Writes Writes Writes Writes Writes Writes Writes Writes Writes

abbrev pub ElsifLayer : Type 0
ElsifLayer = Elsif-F Writes Writes Writes Writes Writes Writes Writes Writes Writes Writes

abbrev pub ExitLayer : Type 0
ExitLayer = Exit-F Writes Writes Writes Writes Writes Writes Writes Writes Writes Writes

abbrev pub IfLayer : Type 0
IfLayer = If-F Writes Writes Writes Writes Writes Writes Writes Writes Writes Writes

abbrev pub LoopLayer : Type 0
LoopLayer = Loop-F Writes Writes Writes Writes Writes Writes Writes Writes Writes Writes

abbrev pub RepeatLayer : Type 0
RepeatLayer = Repeat-F Writes Writes Writes Writes Writes Writes Writes Writes Writes Writes

abbrev pub WhileLayer : Type 0
WhileLayer = While-F Writes Writes Writes Writes Writes Writes Writes Writes Writes Writes

-- A statement is a counting node, but for the empty one. Its first token begins it, and its parts stand in it.
abbrev pub statement_step : StatementLayer → Writes
statement_step Statement-F.Empty d rest = rest
statement_step (Statement-F.Assignment target becomes value) d rest = designator target d (mark Becomes becomes (expr value (suc d) rest))
statement_step (Statement-F.Call id arguments) d rest = begin (suc d) (Name id.text) id.place (maybe args arguments (suc d) rest)
statement_step (Statement-F.If s) d rest = s d rest
statement_step (Statement-F.While s) d rest = s d rest
statement_step (Statement-F.Repeat s) d rest = s d rest
statement_step (Statement-F.Loop s) d rest = s d rest
statement_step (Statement-F.Case s) d rest = s d rest

-- `Statement { ";" Statement }`
abbrev pub body_step : BodyLayer → Writes
body_step b d rest = b.first d (each (after Semicolon itself) b.more d rest)

-- `if Expr then Body { elsif Expr then Body } [ else Body ] end`
abbrev pub if__step : IfLayer → Writes
if__step s d rest =
    begin (suc d) (ReservedKind IfWord) s.word (expr s.condition (suc d) (word ThenWord s.then (s.body (suc d)
    (each itself s.elsifs (suc d) (maybe (after_word ElseWord itself) s.otherwise (suc d) (word EndWord s.end rest))))))

abbrev pub elsif_step : ElsifLayer → Writes
elsif_step s d rest = word ElsifWord s.word (expr s.condition d (word ThenWord s.then (s.body d rest)))

-- `while Expr do Body end`
abbrev pub while__step : WhileLayer → Writes
while__step s d rest =
    begin (suc d) (ReservedKind WhileWord) s.word (expr s.condition (suc d) (word DoWord s.do_ (s.body (suc d) (word EndWord s.end rest))))

-- `repeat Body until Expr`
abbrev pub repeat__step : RepeatLayer → Writes
repeat__step s d rest = begin (suc d) (ReservedKind RepeatWord) s.word (s.body (suc d) (word UntilWord s.until (expr s.condition (suc d) rest)))

-- `loop Body { when Expr [ do Body ] exit Body } end`
abbrev pub loop__step : LoopLayer → Writes
loop__step s d rest = begin (suc d) (ReservedKind LoopWord) s.word (s.body (suc d) (each itself s.exits (suc d) (word EndWord s.end rest)))

abbrev pub exit_step : ExitLayer → Writes
exit_step s d rest = word WhenWord s.when (expr s.condition d (maybe (after_word DoWord itself) s.last d (word ExitWord s.exit (s.body d rest))))

-- `case Expr of Arm { ";" Arm } end`
abbrev pub case__step : CaseLayer → Writes
case__step s d rest =
    begin (suc d) (ReservedKind CaseWord) s.word (expr s.choice (suc d) (word OfWord s.of (s.first (suc d)
    (each (after Semicolon itself) s.more (suc d) (word EndWord s.end rest)))))

-- `Expr { "," Expr } ":" begin Body end`
abbrev pub arm_step : ArmLayer → Writes
arm_step s d rest =
    expr s.first d (each (after Comma expr) s.more d (mark Colon s.colon (word BeginWord s.begin (s.body d (word EndWord s.end rest)))))

unfoldable pub statement : Statement → Writes
statement = fold-Statement Writes Writes Writes Writes Writes Writes Writes Writes Writes Writes statement_step arm_step body_step case__step elsif_step exit_step if__step loop__step repeat__step while__step

unfoldable pub arm : Arm → Writes
arm = fold-Arm Writes Writes Writes Writes Writes Writes Writes Writes Writes Writes statement_step arm_step body_step case__step elsif_step exit_step if__step loop__step repeat__step while__step

unfoldable pub body : Body → Writes
body = fold-Body Writes Writes Writes Writes Writes Writes Writes Writes Writes Writes statement_step arm_step body_step case__step elsif_step exit_step if__step loop__step repeat__step while__step

unfoldable pub case_ : Case → Writes
case_ = fold-Case Writes Writes Writes Writes Writes Writes Writes Writes Writes Writes statement_step arm_step body_step case__step elsif_step exit_step if__step loop__step repeat__step while__step

unfoldable pub elsif : Elsif → Writes
elsif = fold-Elsif Writes Writes Writes Writes Writes Writes Writes Writes Writes Writes statement_step arm_step body_step case__step elsif_step exit_step if__step loop__step repeat__step while__step

unfoldable pub exit : Exit → Writes
exit = fold-Exit Writes Writes Writes Writes Writes Writes Writes Writes Writes Writes statement_step arm_step body_step case__step elsif_step exit_step if__step loop__step repeat__step while__step

unfoldable pub if_ : If → Writes
if_ = fold-If Writes Writes Writes Writes Writes Writes Writes Writes Writes Writes statement_step arm_step body_step case__step elsif_step exit_step if__step loop__step repeat__step while__step

unfoldable pub loop_ : Loop → Writes
loop_ = fold-Loop Writes Writes Writes Writes Writes Writes Writes Writes Writes Writes statement_step arm_step body_step case__step elsif_step exit_step if__step loop__step repeat__step while__step

unfoldable pub repeat_ : Repeat → Writes
repeat_ = fold-Repeat Writes Writes Writes Writes Writes Writes Writes Writes Writes Writes statement_step arm_step body_step case__step elsif_step exit_step if__step loop__step repeat__step while__step

unfoldable pub while_ : While → Writes
while_ = fold-While Writes Writes Writes Writes Writes Writes Writes Writes Writes Writes statement_step arm_step body_step case__step elsif_step exit_step if__step loop__step repeat__step while__step
