-- The names that statements use, in their order.
use Rattle.std.specs.Prelude.{◌∷◌}
use Rattle.mc_tree.specs.declared.statement.Arm.{Arm}
use Rattle.mc_tree.specs.declared.statement.Body.{Body}
use Rattle.mc_tree.specs.declared.statement.Case.{Case}
use Rattle.mc_tree.specs.declared.statement.Elsif.{Elsif}
use Rattle.mc_tree.specs.declared.statement.Exit.{Exit}
use Rattle.mc_tree.specs.declared.statement.If.{If}
use Rattle.mc_tree.specs.declared.statement.Loop.{Loop}
use Rattle.mc_tree.specs.declared.statement.Repeat.{Repeat}
use Rattle.mc_tree.specs.declared.statement.Statement.{Statement}
use Rattle.mc_tree.specs.declared.statement.While.{While}
use Rattle.mc_tree.specs.declared.statement.Statement.TheOpen.{Statement-F, Arm-F, Body-F, Case-F, Elsif-F, Exit-F, If-F, Loop-F, Repeat-F, While-F}
use Rattle.mc_tree.specs.declared.statement.Statement.TheFolds.{fold-Statement, fold-Arm, fold-Body, fold-Case, fold-Elsif, fold-Exit, fold-If, fold-Loop, fold-Repeat, fold-While}
use Rattle.mc_prog.specs.Notes.{Notes, Uses, each, maybe, after, itself}
use Rattle.mc_prog.specs.ExpressionNames.{expr, args, designator}

abbrev pub ArmLayer : Type 0
ArmLayer = Arm-F Notes Notes Notes Notes Notes Notes Notes Notes Notes Notes

abbrev pub BodyLayer : Type 0
BodyLayer = Body-F Notes Notes Notes Notes Notes Notes Notes Notes Notes Notes

abbrev pub CaseLayer : Type 0
CaseLayer = Case-F Notes Notes Notes Notes Notes Notes Notes Notes Notes Notes

abbrev pub ElsifLayer : Type 0
ElsifLayer = Elsif-F Notes Notes Notes Notes Notes Notes Notes Notes Notes Notes

abbrev pub ExitLayer : Type 0
ExitLayer = Exit-F Notes Notes Notes Notes Notes Notes Notes Notes Notes Notes

abbrev pub IfLayer : Type 0
IfLayer = If-F Notes Notes Notes Notes Notes Notes Notes Notes Notes Notes

abbrev pub LoopLayer : Type 0
LoopLayer = Loop-F Notes Notes Notes Notes Notes Notes Notes Notes Notes Notes

abbrev pub RepeatLayer : Type 0
RepeatLayer = Repeat-F Notes Notes Notes Notes Notes Notes Notes Notes Notes Notes

abbrev pub StatementLayer : Type 0
StatementLayer = Statement-F Notes Notes Notes Notes Notes Notes Notes Notes Notes Notes

abbrev pub WhileLayer : Type 0
WhileLayer = While-F Notes Notes Notes Notes Notes Notes Notes Notes Notes Notes

abbrev pub statement_step : StatementLayer → Notes
statement_step Statement-F.Empty rest = rest
statement_step (Statement-F.Assignment target becomes value) rest = designator target (expr value rest)
statement_step (Statement-F.Call id arguments) rest = Uses id ∷ maybe args arguments rest
statement_step (Statement-F.If s) rest = s rest
statement_step (Statement-F.While s) rest = s rest
statement_step (Statement-F.Repeat s) rest = s rest
statement_step (Statement-F.Loop s) rest = s rest
statement_step (Statement-F.Case s) rest = s rest

abbrev pub body_step : BodyLayer → Notes
body_step b rest = b.first (each (after itself) b.more rest)

abbrev pub if__step : IfLayer → Notes
if__step s rest = expr s.condition (s.body (each itself s.elsifs (maybe (after itself) s.otherwise rest)))

abbrev pub elsif_step : ElsifLayer → Notes
elsif_step s rest = expr s.condition (s.body rest)

abbrev pub while__step : WhileLayer → Notes
while__step s rest = expr s.condition (s.body rest)

abbrev pub repeat__step : RepeatLayer → Notes
repeat__step s rest = s.body (expr s.condition rest)

abbrev pub loop__step : LoopLayer → Notes
loop__step s rest = s.body (each itself s.exits rest)

abbrev pub exit_step : ExitLayer → Notes
exit_step s rest = expr s.condition (maybe (after itself) s.last (s.body rest))

abbrev pub case__step : CaseLayer → Notes
case__step s rest = expr s.choice (s.first (each (after itself) s.more rest))

abbrev pub arm_step : ArmLayer → Notes
arm_step s rest = expr s.first (each (after expr) s.more (s.body rest))

unfoldable pub statement : Statement → Notes
statement = fold-Statement Notes Notes Notes Notes Notes Notes Notes Notes Notes Notes statement_step arm_step body_step case__step elsif_step exit_step if__step loop__step repeat__step while__step

unfoldable pub arm : Arm → Notes
arm = fold-Arm Notes Notes Notes Notes Notes Notes Notes Notes Notes Notes statement_step arm_step body_step case__step elsif_step exit_step if__step loop__step repeat__step while__step

unfoldable pub body : Body → Notes
body = fold-Body Notes Notes Notes Notes Notes Notes Notes Notes Notes Notes statement_step arm_step body_step case__step elsif_step exit_step if__step loop__step repeat__step while__step

unfoldable pub case_ : Case → Notes
case_ = fold-Case Notes Notes Notes Notes Notes Notes Notes Notes Notes Notes statement_step arm_step body_step case__step elsif_step exit_step if__step loop__step repeat__step while__step

unfoldable pub elsif : Elsif → Notes
elsif = fold-Elsif Notes Notes Notes Notes Notes Notes Notes Notes Notes Notes statement_step arm_step body_step case__step elsif_step exit_step if__step loop__step repeat__step while__step

unfoldable pub exit : Exit → Notes
exit = fold-Exit Notes Notes Notes Notes Notes Notes Notes Notes Notes Notes statement_step arm_step body_step case__step elsif_step exit_step if__step loop__step repeat__step while__step

unfoldable pub if_ : If → Notes
if_ = fold-If Notes Notes Notes Notes Notes Notes Notes Notes Notes Notes statement_step arm_step body_step case__step elsif_step exit_step if__step loop__step repeat__step while__step

unfoldable pub loop_ : Loop → Notes
loop_ = fold-Loop Notes Notes Notes Notes Notes Notes Notes Notes Notes Notes statement_step arm_step body_step case__step elsif_step exit_step if__step loop__step repeat__step while__step

unfoldable pub repeat_ : Repeat → Notes
repeat_ = fold-Repeat Notes Notes Notes Notes Notes Notes Notes Notes Notes Notes statement_step arm_step body_step case__step elsif_step exit_step if__step loop__step repeat__step while__step

unfoldable pub while_ : While → Notes
while_ = fold-While Notes Notes Notes Notes Notes Notes Notes Notes Notes Notes statement_step arm_step body_step case__step elsif_step exit_step if__step loop__step repeat__step while__step
