-- What each node of a statement adds, by its parts.
use Rattle.std.specs.Prelude.{◌≡◌, List, Option, Some, None}
use Rattle.std.proofs.Common.{ap, sym, ◌∙◌}
use Rattle.mc_tree.specs.declared.place.Place.{Place}
use Rattle.mc_tree.specs.declared.tree.Id.{Id}
use Rattle.mc_tree.specs.declared.tree.After.{After}
use Rattle.mc_tree.specs.declared.expression.Args.{Args}
use Rattle.mc_tree.specs.declared.expression.Designator.{Designator}
use Rattle.mc_tree.specs.declared.expression.Expr.{Expr}
use Rattle.mc_tree.specs.declared.statement.Arm.{Arm}
use Rattle.mc_tree.specs.declared.statement.Body.{Body}
use Rattle.mc_tree.specs.declared.statement.Case.{Case}
use Rattle.mc_tree.specs.declared.statement.Elsif.{Elsif}
use Rattle.mc_tree.specs.declared.statement.Exit.{Exit}
use Rattle.mc_tree.specs.declared.statement.If.{If}
use Rattle.mc_tree.specs.declared.statement.Loop.{Loop}
use Rattle.mc_tree.specs.declared.statement.Repeat.{Repeat}
use Rattle.mc_tree.specs.declared.statement.Statement.{Statement}
use Rattle.mc_tree.specs.declared.statement.While.{While}
use Rattle.mc_tree.specs.declared.statement.Statement.TheVariants as statement_of
use Rattle.mc_tree.specs.declared.statement.Statement.TheOpen.{Statement-F}
use Rattle.mc_tree.specs.declared.statement.Statement.TheFolds.{fold-roll-Statement, fold-roll-If, fold-roll-Exit, fold_out-Arm, fold_out-Body, fold_out-Case, fold_out-Elsif, fold_out-Loop, fold_out-Repeat, fold_out-While}
use Rattle.mc_tree.specs.declared.statement.Statement.TheViews.{roll-If, roll-out-If, roll-Exit, roll-out-Exit, out-Arm, out-Body, out-Case, out-Elsif, out-Exit, out-If, out-Loop, out-Repeat, out-While}
use Rattle.mc_prog.specs.Pieces.{Gather, Gathered, Assignment, Statement as StatementPiece, If as IfPiece, While as WhilePiece, Repeat as RepeatPiece, Loop as LoopPiece, When, Case as CasePiece, Arm as ArmPiece, closed, node, each, maybe, after}
use Rattle.mc_prog.specs.ExpressionPieces.{args, designator, expr}
use Rattle.mc_prog.specs.StatementPieces.{statement, arm, body, body_behind, case_, elsif, exit, if_, label, loop_, repeat_, while_, statement_step, arm_step, body_step, case__step, elsif_step, exit_step, if__step, loop__step, repeat__step, while__step}
use Rattle.mc_pieces.specs.Walks.{behind, emptied, marked_body}
use Rattle.mc_pieces.proofs.PartLaws.{each-map, each-map_after}

pub body-is : (x : Body) (g : Gathered) → body x g ≡ each (after statement) (out-Body x).more (statement (out-Body x).first g)
unfolding body statement
body-is x g = ap (λ (w : Gather). w g) (fold_out-Body Gather Gather Gather Gather Gather Gather Gather Gather Gather Gather statement_step arm_step body_step case__step elsif_step exit_step if__step loop__step repeat__step while__step x) ∙ each-map_after statement (out-Body x).more (statement (out-Body x).first g)

if_-at : (word_ : Place) (condition_ : Expr) (then_ : Place) (body_ : Body) (elsifs_ : List Elsif) (otherwise_ : Option (After Body)) (end_ : Place) (g : Gathered) → if_ (roll-If (record { word = word_; condition = condition_; then = then_; body = body_; elsifs = elsifs_; otherwise = otherwise_; end = end_ })) g ≡ node (Some word_) IfPiece (λ (i : Gathered). maybe marked_body otherwise_ (each elsif elsifs_ (body_behind then_ (body body_) (expr condition_ i)))) g
unfolding if_ body elsif
if_-at word_ condition_ then_ body_ elsifs_ None end_ g = ap (λ (w : Gather). w g) (fold-roll-If Gather Gather Gather Gather Gather Gather Gather Gather Gather Gather statement_step arm_step body_step case__step elsif_step exit_step if__step loop__step repeat__step while__step (record { word = word_; condition = condition_; then = then_; body = body_; elsifs = elsifs_; otherwise = None; end = end_ })) ∙ ap (λ (z : Gathered). behind g.parts (closed (Some word_) IfPiece (maybe marked_body None z))) (each-map elsif elsifs_ (body_behind then_ (body body_) (expr condition_ (emptied g))))
if_-at word_ condition_ then_ body_ elsifs_ (Some part) end_ g = ap (λ (w : Gather). w g) (fold-roll-If Gather Gather Gather Gather Gather Gather Gather Gather Gather Gather statement_step arm_step body_step case__step elsif_step exit_step if__step loop__step repeat__step while__step (record { word = word_; condition = condition_; then = then_; body = body_; elsifs = elsifs_; otherwise = (Some part); end = end_ })) ∙ ap (λ (z : Gathered). behind g.parts (closed (Some word_) IfPiece (maybe marked_body (Some part) z))) (each-map elsif elsifs_ (body_behind then_ (body body_) (expr condition_ (emptied g))))

pub if_-is : (x : If) (g : Gathered) → if_ x g ≡ node (Some (out-If x).word) IfPiece (λ (i : Gathered). maybe marked_body (out-If x).otherwise (each elsif (out-If x).elsifs (body_behind (out-If x).then (body (out-If x).body) (expr (out-If x).condition i)))) g
if_-is x g = ap (λ (y : If). if_ y g) (sym (roll-out-If x)) ∙ if_-at (out-If x).word (out-If x).condition (out-If x).then (out-If x).body (out-If x).elsifs (out-If x).otherwise (out-If x).end g

pub elsif-is : (x : Elsif) (g : Gathered) → elsif x g ≡ body_behind (out-Elsif x).then (body (out-Elsif x).body) (expr (out-Elsif x).condition g)
unfolding elsif body
elsif-is x g = ap (λ (w : Gather). w g) (fold_out-Elsif Gather Gather Gather Gather Gather Gather Gather Gather Gather Gather statement_step arm_step body_step case__step elsif_step exit_step if__step loop__step repeat__step while__step x)

pub while_-is : (x : While) (g : Gathered) → while_ x g ≡ node (Some (out-While x).word) WhilePiece (λ (i : Gathered). body_behind (out-While x).do_ (body (out-While x).body) (expr (out-While x).condition i)) g
unfolding while_ body
while_-is x g = ap (λ (w : Gather). w g) (fold_out-While Gather Gather Gather Gather Gather Gather Gather Gather Gather Gather statement_step arm_step body_step case__step elsif_step exit_step if__step loop__step repeat__step while__step x)

pub repeat_-is : (x : Repeat) (g : Gathered) → repeat_ x g ≡ node (Some (out-Repeat x).word) RepeatPiece (λ (i : Gathered). expr (out-Repeat x).condition (body_behind (out-Repeat x).word (body (out-Repeat x).body) i)) g
unfolding repeat_ body
repeat_-is x g = ap (λ (w : Gather). w g) (fold_out-Repeat Gather Gather Gather Gather Gather Gather Gather Gather Gather Gather statement_step arm_step body_step case__step elsif_step exit_step if__step loop__step repeat__step while__step x)

pub loop_-is : (x : Loop) (g : Gathered) → loop_ x g ≡ node (Some (out-Loop x).word) LoopPiece (λ (i : Gathered). each exit (out-Loop x).exits (body_behind (out-Loop x).word (body (out-Loop x).body) i)) g
unfolding loop_ body exit
loop_-is x g = ap (λ (w : Gather). w g) (fold_out-Loop Gather Gather Gather Gather Gather Gather Gather Gather Gather Gather statement_step arm_step body_step case__step elsif_step exit_step if__step loop__step repeat__step while__step x) ∙ ap (λ (z : Gathered). behind g.parts (closed (Some (out-Loop x).word) LoopPiece z)) (each-map exit (out-Loop x).exits (body_behind (out-Loop x).word (body (out-Loop x).body) (emptied g)))

exit-at : (when_ : Place) (condition_ : Expr) (last_ : Option (After Body)) (exit_ : Place) (body_ : Body) (g : Gathered) → exit (roll-Exit (record { when = when_; condition = condition_; last = last_; exit = exit_; body = body_ })) g ≡ node (Some when_) When (λ (i : Gathered). body_behind exit_ (body body_) (maybe marked_body last_ (expr condition_ i))) g
unfolding exit body
exit-at when_ condition_ None exit_ body_ g = ap (λ (w : Gather). w g) (fold-roll-Exit Gather Gather Gather Gather Gather Gather Gather Gather Gather Gather statement_step arm_step body_step case__step elsif_step exit_step if__step loop__step repeat__step while__step (record { when = when_; condition = condition_; last = None; exit = exit_; body = body_ }))
exit-at when_ condition_ (Some part) exit_ body_ g = ap (λ (w : Gather). w g) (fold-roll-Exit Gather Gather Gather Gather Gather Gather Gather Gather Gather Gather statement_step arm_step body_step case__step elsif_step exit_step if__step loop__step repeat__step while__step (record { when = when_; condition = condition_; last = (Some part); exit = exit_; body = body_ }))

pub exit-is : (x : Exit) (g : Gathered) → exit x g ≡ node (Some (out-Exit x).when) When (λ (i : Gathered). body_behind (out-Exit x).exit (body (out-Exit x).body) (maybe marked_body (out-Exit x).last (expr (out-Exit x).condition i))) g
exit-is x g = ap (λ (y : Exit). exit y g) (sym (roll-out-Exit x)) ∙ exit-at (out-Exit x).when (out-Exit x).condition (out-Exit x).last (out-Exit x).exit (out-Exit x).body g

pub case_-is : (x : Case) (g : Gathered) → case_ x g ≡ node (Some (out-Case x).word) CasePiece (λ (i : Gathered). each (after arm) (out-Case x).more (arm (out-Case x).first (expr (out-Case x).choice i))) g
unfolding case_ arm
case_-is x g = ap (λ (w : Gather). w g) (fold_out-Case Gather Gather Gather Gather Gather Gather Gather Gather Gather Gather statement_step arm_step body_step case__step elsif_step exit_step if__step loop__step repeat__step while__step x) ∙ ap (λ (z : Gathered). behind g.parts (closed (Some (out-Case x).word) CasePiece z)) (each-map_after arm (out-Case x).more (arm (out-Case x).first (expr (out-Case x).choice (emptied g))))

pub arm-is : (x : Arm) (g : Gathered) → arm x g ≡ node None ArmPiece (λ (i : Gathered). body_behind (out-Arm x).begin (body (out-Arm x).body) (each (after label) (out-Arm x).more (label (out-Arm x).first i))) g
unfolding arm body
arm-is x g = ap (λ (w : Gather). w g) (fold_out-Arm Gather Gather Gather Gather Gather Gather Gather Gather Gather Gather statement_step arm_step body_step case__step elsif_step exit_step if__step loop__step repeat__step while__step x)

pub empty-is : (g : Gathered) → statement statement_of.Empty g ≡ g
unfolding statement
empty-is g = ap (λ (y : Statement). statement y g) (sym (statement_of.rolls-Empty)) ∙ ap (λ (w : Gather). w g) (fold-roll-Statement Gather Gather Gather Gather Gather Gather Gather Gather Gather Gather statement_step arm_step body_step case__step elsif_step exit_step if__step loop__step repeat__step while__step Statement-F.Empty)

pub assignment-is : (target : Designator) (becomes : Place) (value : Expr) (g : Gathered) → statement (statement_of.Assignment target becomes value) g ≡ node None Assignment (λ (i : Gathered). expr value (designator target i)) g
unfolding statement
assignment-is target becomes value g = ap (λ (y : Statement). statement y g) (sym (statement_of.rolls-Assignment target becomes value)) ∙ ap (λ (w : Gather). w g) (fold-roll-Statement Gather Gather Gather Gather Gather Gather Gather Gather Gather Gather statement_step arm_step body_step case__step elsif_step exit_step if__step loop__step repeat__step while__step (Statement-F.Assignment target becomes value))

pub call-is : (id : Id) (arguments : Option Args) (g : Gathered) → statement (statement_of.Call id arguments) g ≡ node (Some id.place) (StatementPiece id) (maybe args arguments) g
unfolding statement
call-is id arguments g = ap (λ (y : Statement). statement y g) (sym (statement_of.rolls-Call id arguments)) ∙ ap (λ (w : Gather). w g) (fold-roll-Statement Gather Gather Gather Gather Gather Gather Gather Gather Gather Gather statement_step arm_step body_step case__step elsif_step exit_step if__step loop__step repeat__step while__step (Statement-F.Call id arguments))

pub in_if-is : (x : If) (g : Gathered) → statement (statement_of.If x) g ≡ if_ x g
unfolding statement if_
in_if-is x g = ap (λ (y : Statement). statement y g) (sym (statement_of.rolls-If x)) ∙ ap (λ (w : Gather). w g) (fold-roll-Statement Gather Gather Gather Gather Gather Gather Gather Gather Gather Gather statement_step arm_step body_step case__step elsif_step exit_step if__step loop__step repeat__step while__step (Statement-F.If x))

pub in_while-is : (x : While) (g : Gathered) → statement (statement_of.While x) g ≡ while_ x g
unfolding statement while_
in_while-is x g = ap (λ (y : Statement). statement y g) (sym (statement_of.rolls-While x)) ∙ ap (λ (w : Gather). w g) (fold-roll-Statement Gather Gather Gather Gather Gather Gather Gather Gather Gather Gather statement_step arm_step body_step case__step elsif_step exit_step if__step loop__step repeat__step while__step (Statement-F.While x))

pub in_repeat-is : (x : Repeat) (g : Gathered) → statement (statement_of.Repeat x) g ≡ repeat_ x g
unfolding statement repeat_
in_repeat-is x g = ap (λ (y : Statement). statement y g) (sym (statement_of.rolls-Repeat x)) ∙ ap (λ (w : Gather). w g) (fold-roll-Statement Gather Gather Gather Gather Gather Gather Gather Gather Gather Gather statement_step arm_step body_step case__step elsif_step exit_step if__step loop__step repeat__step while__step (Statement-F.Repeat x))

pub in_loop-is : (x : Loop) (g : Gathered) → statement (statement_of.Loop x) g ≡ loop_ x g
unfolding statement loop_
in_loop-is x g = ap (λ (y : Statement). statement y g) (sym (statement_of.rolls-Loop x)) ∙ ap (λ (w : Gather). w g) (fold-roll-Statement Gather Gather Gather Gather Gather Gather Gather Gather Gather Gather statement_step arm_step body_step case__step elsif_step exit_step if__step loop__step repeat__step while__step (Statement-F.Loop x))

pub in_case-is : (x : Case) (g : Gathered) → statement (statement_of.Case x) g ≡ case_ x g
unfolding statement case_
in_case-is x g = ap (λ (y : Statement). statement y g) (sym (statement_of.rolls-Case x)) ∙ ap (λ (w : Gather). w g) (fold-roll-Statement Gather Gather Gather Gather Gather Gather Gather Gather Gather Gather statement_step arm_step body_step case__step elsif_step exit_step if__step loop__step repeat__step while__step (Statement-F.Case x))

pub ruleset statement_laws = (body-is, if_-is, elsif-is, while_-is, repeat_-is, loop_-is, exit-is, case_-is, arm-is, empty-is, assignment-is, call-is, in_if-is, in_while-is, in_repeat-is, in_loop-is, in_case-is)
