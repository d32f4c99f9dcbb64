-- The pieces of statements. The front of a body is the word before it, or the name of its module where it has none.
use Rattle.std.specs.Prelude.{Some, None}
use Rattle.mc_tree.specs.declared.statement.Arm.{Arm}
use Rattle.mc_tree.specs.declared.statement.Body.{Body}
use Rattle.mc_tree.specs.declared.statement.Case.{Case}
use Rattle.mc_tree.specs.declared.statement.Elsif.{Elsif}
use Rattle.mc_tree.specs.declared.statement.Exit.{Exit}
use Rattle.mc_tree.specs.declared.statement.If.{If}
use Rattle.mc_tree.specs.declared.statement.Loop.{Loop}
use Rattle.mc_tree.specs.declared.statement.Repeat.{Repeat}
use Rattle.mc_tree.specs.declared.statement.Statement.{Statement}
use Rattle.mc_tree.specs.declared.statement.While.{While}
use Rattle.mc_tree.specs.declared.statement.Statement.TheOpen.{Statement-F, Arm-F, Body-F, Case-F, Elsif-F, Exit-F, If-F, Loop-F, Repeat-F, While-F}
use Rattle.mc_tree.specs.declared.statement.Statement.TheFolds.{fold-Statement, fold-Arm, fold-Body, fold-Case, fold-Elsif, fold-Exit, fold-If, fold-Loop, fold-Repeat, fold-While}
use Rattle.mc_tree.specs.declared.place.Place.{Place}
use Rattle.mc_tree.specs.declared.expression.Expr.{Expr}
use Rattle.mc_tree.specs.declared.tree.After.{After}
use Rattle.mc_prog.specs.Pieces.{Gather, Assignment, Statement as StatementPiece, If as IfPiece, While as WhilePiece, Repeat as RepeatPiece, Loop as LoopPiece, When, Case as CasePiece, Arm as ArmPiece, Label, Body as BodyPiece, node, each, maybe, after, itself}
use Rattle.mc_prog.specs.ExpressionPieces.{expr, args, designator}

abbrev pub ArmLayer : Type 0
ArmLayer = Arm-F Gather Gather Gather Gather Gather Gather Gather Gather Gather Gather

abbrev pub BodyLayer : Type 0
BodyLayer = Body-F Gather Gather Gather Gather Gather Gather Gather Gather Gather Gather

abbrev pub CaseLayer : Type 0
CaseLayer = Case-F Gather Gather Gather Gather Gather Gather Gather Gather Gather Gather

abbrev pub ElsifLayer : Type 0
ElsifLayer = Elsif-F Gather Gather Gather Gather Gather Gather Gather Gather Gather Gather

abbrev pub ExitLayer : Type 0
ExitLayer = Exit-F Gather Gather Gather Gather Gather Gather Gather Gather Gather Gather

abbrev pub IfLayer : Type 0
IfLayer = If-F Gather Gather Gather Gather Gather Gather Gather Gather Gather Gather

abbrev pub LoopLayer : Type 0
LoopLayer = Loop-F Gather Gather Gather Gather Gather Gather Gather Gather Gather Gather

abbrev pub RepeatLayer : Type 0
RepeatLayer = Repeat-F Gather Gather Gather Gather Gather Gather Gather Gather Gather Gather

abbrev pub StatementLayer : Type 0
StatementLayer = Statement-F Gather Gather Gather Gather Gather Gather Gather Gather Gather Gather

abbrev pub WhileLayer : Type 0
WhileLayer = While-F Gather Gather Gather Gather Gather Gather Gather Gather Gather Gather

-- A body is what its statements add; the word before it closes it, so that it is one piece.
abbrev pub body_behind : Place → Gather → Gather
body_behind word statements g = node (Some word) BodyPiece statements g

-- the body behind `else`, `do` of a `when`, where there is one
abbrev pub body_after : After Gather → Gather
body_after b g = body_behind b.mark b.item g

abbrev pub statement_step : StatementLayer → Gather
statement_step Statement-F.Empty g = g
statement_step (Statement-F.Assignment target becomes value) g = node None Assignment (λ i. expr value (designator target i)) g
statement_step (Statement-F.Call id arguments) g = node (Some id.place) (StatementPiece id) (maybe args arguments) g
statement_step (Statement-F.If s) g = s g
statement_step (Statement-F.While s) g = s g
statement_step (Statement-F.Repeat s) g = s g
statement_step (Statement-F.Loop s) g = s g
statement_step (Statement-F.Case s) g = s g

abbrev pub body_step : BodyLayer → Gather
body_step b g = each (after itself) b.more (b.first g)

abbrev pub if__step : IfLayer → Gather
if__step s g = node (Some s.word) IfPiece (λ i. maybe body_after s.otherwise (each itself s.elsifs (body_behind s.then s.body (expr s.condition i)))) g

abbrev pub elsif_step : ElsifLayer → Gather
elsif_step s g = body_behind s.then s.body (expr s.condition g)

abbrev pub while__step : WhileLayer → Gather
while__step s g = node (Some s.word) WhilePiece (λ i. body_behind s.do_ s.body (expr s.condition i)) g

abbrev pub repeat__step : RepeatLayer → Gather
repeat__step s g = node (Some s.word) RepeatPiece (λ i. expr s.condition (body_behind s.word s.body i)) g

abbrev pub loop__step : LoopLayer → Gather
loop__step s g = node (Some s.word) LoopPiece (λ i. each itself s.exits (body_behind s.word s.body i)) g

abbrev pub exit_step : ExitLayer → Gather
exit_step s g = node (Some s.when) When (λ i. body_behind s.exit s.body (maybe body_after s.last (expr s.condition i))) g

abbrev pub case__step : CaseLayer → Gather
case__step s g = node (Some s.word) CasePiece (λ i. each (after itself) s.more (s.first (expr s.choice i))) g

abbrev pub label : Expr → Gather
label e g = node None Label (expr e) g

abbrev pub arm_step : ArmLayer → Gather
arm_step s g = node None ArmPiece (λ i. body_behind s.begin s.body (each (after label) s.more (label s.first i))) g

unfoldable pub statement : Statement → Gather
statement = fold-Statement Gather Gather Gather Gather Gather Gather Gather Gather Gather Gather statement_step arm_step body_step case__step elsif_step exit_step if__step loop__step repeat__step while__step

unfoldable pub arm : Arm → Gather
arm = fold-Arm Gather Gather Gather Gather Gather Gather Gather Gather Gather Gather statement_step arm_step body_step case__step elsif_step exit_step if__step loop__step repeat__step while__step

unfoldable pub body : Body → Gather
body = fold-Body Gather Gather Gather Gather Gather Gather Gather Gather Gather Gather statement_step arm_step body_step case__step elsif_step exit_step if__step loop__step repeat__step while__step

unfoldable pub case_ : Case → Gather
case_ = fold-Case Gather Gather Gather Gather Gather Gather Gather Gather Gather Gather statement_step arm_step body_step case__step elsif_step exit_step if__step loop__step repeat__step while__step

unfoldable pub elsif : Elsif → Gather
elsif = fold-Elsif Gather Gather Gather Gather Gather Gather Gather Gather Gather Gather statement_step arm_step body_step case__step elsif_step exit_step if__step loop__step repeat__step while__step

unfoldable pub exit : Exit → Gather
exit = fold-Exit Gather Gather Gather Gather Gather Gather Gather Gather Gather Gather statement_step arm_step body_step case__step elsif_step exit_step if__step loop__step repeat__step while__step

unfoldable pub if_ : If → Gather
if_ = fold-If Gather Gather Gather Gather Gather Gather Gather Gather Gather Gather statement_step arm_step body_step case__step elsif_step exit_step if__step loop__step repeat__step while__step

unfoldable pub loop_ : Loop → Gather
loop_ = fold-Loop Gather Gather Gather Gather Gather Gather Gather Gather Gather Gather statement_step arm_step body_step case__step elsif_step exit_step if__step loop__step repeat__step while__step

unfoldable pub repeat_ : Repeat → Gather
repeat_ = fold-Repeat Gather Gather Gather Gather Gather Gather Gather Gather Gather Gather statement_step arm_step body_step case__step elsif_step exit_step if__step loop__step repeat__step while__step

unfoldable pub while_ : While → Gather
while_ = fold-While Gather Gather Gather Gather Gather Gather Gather Gather Gather Gather statement_step arm_step body_step case__step elsif_step exit_step if__step loop__step repeat__step while__step
