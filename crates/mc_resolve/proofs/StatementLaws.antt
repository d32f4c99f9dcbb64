-- What each node of a statement does to names, by its parts.
use Rattle.std.specs.Prelude.{◌≡◌, List, ◌∷◌, Option, Some, None}
use Rattle.std.proofs.Common.{ap, sym, ◌∙◌}
use Rattle.mc_tree.specs.declared.place.Place.{Place}
use Rattle.mc_tree.specs.declared.tree.Id.{Id}
use Rattle.mc_tree.specs.declared.tree.After.{After}
use Rattle.mc_tree.specs.declared.expression.Args.{Args}
use Rattle.mc_tree.specs.declared.expression.Designator.{Designator}
use Rattle.mc_tree.specs.declared.expression.Expr.{Expr}
use Rattle.mc_tree.specs.declared.statement.Arm.{Arm}
use Rattle.mc_tree.specs.declared.statement.Body.{Body}
use Rattle.mc_tree.specs.declared.statement.Case.{Case}
use Rattle.mc_tree.specs.declared.statement.Elsif.{Elsif}
use Rattle.mc_tree.specs.declared.statement.Exit.{Exit}
use Rattle.mc_tree.specs.declared.statement.If.{If}
use Rattle.mc_tree.specs.declared.statement.Loop.{Loop}
use Rattle.mc_tree.specs.declared.statement.Repeat.{Repeat}
use Rattle.mc_tree.specs.declared.statement.Statement.{Statement}
use Rattle.mc_tree.specs.declared.statement.While.{While}
use Rattle.mc_tree.specs.declared.statement.Statement.TheVariants as statement_of
use Rattle.mc_tree.specs.declared.statement.Statement.TheOpen.{Statement-F}
use Rattle.mc_tree.specs.declared.statement.Statement.TheFolds.{fold-roll-Statement, fold-roll-If, fold-roll-Exit, fold_out-Arm, fold_out-Body, fold_out-Case, fold_out-Elsif, fold_out-Loop, fold_out-Repeat, fold_out-While}
use Rattle.mc_tree.specs.declared.statement.Statement.TheViews.{roll-If, roll-out-If, roll-Exit, roll-out-Exit, out-Arm, out-Body, out-Case, out-Elsif, out-Exit, out-If, out-Loop, out-Repeat, out-While}
use Rattle.mc_prog.specs.Notes.{Notes, Item, Uses, each, maybe, after}
use Rattle.mc_prog.specs.ExpressionNames.{args, designator, expr}
use Rattle.mc_prog.specs.StatementNames.{statement, arm, body, case_, elsif, exit, if_, loop_, repeat_, while_, statement_step, arm_step, body_step, case__step, elsif_step, exit_step, if__step, loop__step, repeat__step, while__step}
use Rattle.mc_resolve.proofs.PartLaws.{each-map, each-map_after}

pub body-is : (x : Body) (rest : List Item) → body x rest ≡ statement (out-Body x).first (each (after statement) (out-Body x).more rest)
unfolding body statement
body-is x rest = ap (λ (w : Notes). w rest) (fold_out-Body Notes Notes Notes Notes Notes Notes Notes Notes Notes Notes statement_step arm_step body_step case__step elsif_step exit_step if__step loop__step repeat__step while__step x) ∙ ap (statement (out-Body x).first) (each-map_after statement (out-Body x).more rest)

if_-at : (word_ : Place) (condition_ : Expr) (then_ : Place) (body_ : Body) (elsifs_ : List Elsif) (otherwise_ : Option (After Body)) (end_ : Place) (rest : List Item) → if_ (roll-If (record { word = word_; condition = condition_; then = then_; body = body_; elsifs = elsifs_; otherwise = otherwise_; end = end_ })) rest ≡ expr condition_ (body body_ (each elsif elsifs_ (maybe (after body) otherwise_ rest)))
unfolding if_ body elsif
if_-at word_ condition_ then_ body_ elsifs_ None end_ rest = ap (λ (w : Notes). w rest) (fold-roll-If Notes Notes Notes Notes Notes Notes Notes Notes Notes Notes statement_step arm_step body_step case__step elsif_step exit_step if__step loop__step repeat__step while__step (record { word = word_; condition = condition_; then = then_; body = body_; elsifs = elsifs_; otherwise = None; end = end_ })) ∙ ap (λ (z : List Item). expr condition_ (body body_ z)) (each-map elsif elsifs_ (maybe (after body) None rest))
if_-at word_ condition_ then_ body_ elsifs_ (Some part) end_ rest = ap (λ (w : Notes). w rest) (fold-roll-If Notes Notes Notes Notes Notes Notes Notes Notes Notes Notes statement_step arm_step body_step case__step elsif_step exit_step if__step loop__step repeat__step while__step (record { word = word_; condition = condition_; then = then_; body = body_; elsifs = elsifs_; otherwise = (Some part); end = end_ })) ∙ ap (λ (z : List Item). expr condition_ (body body_ z)) (each-map elsif elsifs_ (maybe (after body) (Some part) rest))

pub if_-is : (x : If) (rest : List Item) → if_ x rest ≡ expr (out-If x).condition (body (out-If x).body (each elsif (out-If x).elsifs (maybe (after body) (out-If x).otherwise rest)))
if_-is x rest = ap (λ (y : If). if_ y rest) (sym (roll-out-If x)) ∙ if_-at (out-If x).word (out-If x).condition (out-If x).then (out-If x).body (out-If x).elsifs (out-If x).otherwise (out-If x).end rest

pub elsif-is : (x : Elsif) (rest : List Item) → elsif x rest ≡ expr (out-Elsif x).condition (body (out-Elsif x).body rest)
unfolding elsif body
elsif-is x rest = ap (λ (w : Notes). w rest) (fold_out-Elsif Notes Notes Notes Notes Notes Notes Notes Notes Notes Notes statement_step arm_step body_step case__step elsif_step exit_step if__step loop__step repeat__step while__step x)

pub while_-is : (x : While) (rest : List Item) → while_ x rest ≡ expr (out-While x).condition (body (out-While x).body rest)
unfolding while_ body
while_-is x rest = ap (λ (w : Notes). w rest) (fold_out-While Notes Notes Notes Notes Notes Notes Notes Notes Notes Notes statement_step arm_step body_step case__step elsif_step exit_step if__step loop__step repeat__step while__step x)

pub repeat_-is : (x : Repeat) (rest : List Item) → repeat_ x rest ≡ body (out-Repeat x).body (expr (out-Repeat x).condition rest)
unfolding repeat_ body
repeat_-is x rest = ap (λ (w : Notes). w rest) (fold_out-Repeat Notes Notes Notes Notes Notes Notes Notes Notes Notes Notes statement_step arm_step body_step case__step elsif_step exit_step if__step loop__step repeat__step while__step x)

pub loop_-is : (x : Loop) (rest : List Item) → loop_ x rest ≡ body (out-Loop x).body (each exit (out-Loop x).exits rest)
unfolding loop_ body exit
loop_-is x rest = ap (λ (w : Notes). w rest) (fold_out-Loop Notes Notes Notes Notes Notes Notes Notes Notes Notes Notes statement_step arm_step body_step case__step elsif_step exit_step if__step loop__step repeat__step while__step x) ∙ ap (body (out-Loop x).body) (each-map exit (out-Loop x).exits rest)

exit-at : (when_ : Place) (condition_ : Expr) (last_ : Option (After Body)) (exit_ : Place) (body_ : Body) (rest : List Item) → exit (roll-Exit (record { when = when_; condition = condition_; last = last_; exit = exit_; body = body_ })) rest ≡ expr condition_ (maybe (after body) last_ (body body_ rest))
unfolding exit body
exit-at when_ condition_ None exit_ body_ rest = ap (λ (w : Notes). w rest) (fold-roll-Exit Notes Notes Notes Notes Notes Notes Notes Notes Notes Notes statement_step arm_step body_step case__step elsif_step exit_step if__step loop__step repeat__step while__step (record { when = when_; condition = condition_; last = None; exit = exit_; body = body_ }))
exit-at when_ condition_ (Some part) exit_ body_ rest = ap (λ (w : Notes). w rest) (fold-roll-Exit Notes Notes Notes Notes Notes Notes Notes Notes Notes Notes statement_step arm_step body_step case__step elsif_step exit_step if__step loop__step repeat__step while__step (record { when = when_; condition = condition_; last = (Some part); exit = exit_; body = body_ }))

pub exit-is : (x : Exit) (rest : List Item) → exit x rest ≡ expr (out-Exit x).condition (maybe (after body) (out-Exit x).last (body (out-Exit x).body rest))
exit-is x rest = ap (λ (y : Exit). exit y rest) (sym (roll-out-Exit x)) ∙ exit-at (out-Exit x).when (out-Exit x).condition (out-Exit x).last (out-Exit x).exit (out-Exit x).body rest

pub case_-is : (x : Case) (rest : List Item) → case_ x rest ≡ expr (out-Case x).choice (arm (out-Case x).first (each (after arm) (out-Case x).more rest))
unfolding case_ arm
case_-is x rest = ap (λ (w : Notes). w rest) (fold_out-Case Notes Notes Notes Notes Notes Notes Notes Notes Notes Notes statement_step arm_step body_step case__step elsif_step exit_step if__step loop__step repeat__step while__step x) ∙ ap (λ (z : List Item). expr (out-Case x).choice (arm (out-Case x).first z)) (each-map_after arm (out-Case x).more rest)

pub arm-is : (x : Arm) (rest : List Item) → arm x rest ≡ expr (out-Arm x).first (each (after expr) (out-Arm x).more (body (out-Arm x).body rest))
unfolding arm body
arm-is x rest = ap (λ (w : Notes). w rest) (fold_out-Arm Notes Notes Notes Notes Notes Notes Notes Notes Notes Notes statement_step arm_step body_step case__step elsif_step exit_step if__step loop__step repeat__step while__step x)

pub empty-is : (rest : List Item) → statement statement_of.Empty rest ≡ rest
unfolding statement
empty-is rest = ap (λ (y : Statement). statement y rest) (sym (statement_of.rolls-Empty)) ∙ ap (λ (w : Notes). w rest) (fold-roll-Statement Notes Notes Notes Notes Notes Notes Notes Notes Notes Notes statement_step arm_step body_step case__step elsif_step exit_step if__step loop__step repeat__step while__step Statement-F.Empty)

pub assignment-is : (target : Designator) (becomes : Place) (value : Expr) (rest : List Item) → statement (statement_of.Assignment target becomes value) rest ≡ designator target (expr value rest)
unfolding statement
assignment-is target becomes value rest = ap (λ (y : Statement). statement y rest) (sym (statement_of.rolls-Assignment target becomes value)) ∙ ap (λ (w : Notes). w rest) (fold-roll-Statement Notes Notes Notes Notes Notes Notes Notes Notes Notes Notes statement_step arm_step body_step case__step elsif_step exit_step if__step loop__step repeat__step while__step (Statement-F.Assignment target becomes value))

pub call-is : (id : Id) (arguments : Option Args) (rest : List Item) → statement (statement_of.Call id arguments) rest ≡ Uses id ∷ maybe args arguments rest
unfolding statement
call-is id arguments rest = ap (λ (y : Statement). statement y rest) (sym (statement_of.rolls-Call id arguments)) ∙ ap (λ (w : Notes). w rest) (fold-roll-Statement Notes Notes Notes Notes Notes Notes Notes Notes Notes Notes statement_step arm_step body_step case__step elsif_step exit_step if__step loop__step repeat__step while__step (Statement-F.Call id arguments))

pub in_if-is : (x : If) (rest : List Item) → statement (statement_of.If x) rest ≡ if_ x rest
unfolding statement if_
in_if-is x rest = ap (λ (y : Statement). statement y rest) (sym (statement_of.rolls-If x)) ∙ ap (λ (w : Notes). w rest) (fold-roll-Statement Notes Notes Notes Notes Notes Notes Notes Notes Notes Notes statement_step arm_step body_step case__step elsif_step exit_step if__step loop__step repeat__step while__step (Statement-F.If x))

pub in_while-is : (x : While) (rest : List Item) → statement (statement_of.While x) rest ≡ while_ x rest
unfolding statement while_
in_while-is x rest = ap (λ (y : Statement). statement y rest) (sym (statement_of.rolls-While x)) ∙ ap (λ (w : Notes). w rest) (fold-roll-Statement Notes Notes Notes Notes Notes Notes Notes Notes Notes Notes statement_step arm_step body_step case__step elsif_step exit_step if__step loop__step repeat__step while__step (Statement-F.While x))

pub in_repeat-is : (x : Repeat) (rest : List Item) → statement (statement_of.Repeat x) rest ≡ repeat_ x rest
unfolding statement repeat_
in_repeat-is x rest = ap (λ (y : Statement). statement y rest) (sym (statement_of.rolls-Repeat x)) ∙ ap (λ (w : Notes). w rest) (fold-roll-Statement Notes Notes Notes Notes Notes Notes Notes Notes Notes Notes statement_step arm_step body_step case__step elsif_step exit_step if__step loop__step repeat__step while__step (Statement-F.Repeat x))

pub in_loop-is : (x : Loop) (rest : List Item) → statement (statement_of.Loop x) rest ≡ loop_ x rest
unfolding statement loop_
in_loop-is x rest = ap (λ (y : Statement). statement y rest) (sym (statement_of.rolls-Loop x)) ∙ ap (λ (w : Notes). w rest) (fold-roll-Statement Notes Notes Notes Notes Notes Notes Notes Notes Notes Notes statement_step arm_step body_step case__step elsif_step exit_step if__step loop__step repeat__step while__step (Statement-F.Loop x))

pub in_case-is : (x : Case) (rest : List Item) → statement (statement_of.Case x) rest ≡ case_ x rest
unfolding statement case_
in_case-is x rest = ap (λ (y : Statement). statement y rest) (sym (statement_of.rolls-Case x)) ∙ ap (λ (w : Notes). w rest) (fold-roll-Statement Notes Notes Notes Notes Notes Notes Notes Notes Notes Notes statement_step arm_step body_step case__step elsif_step exit_step if__step loop__step repeat__step while__step (Statement-F.Case x))

pub ruleset statement_laws = (body-is, if_-is, elsif-is, while_-is, repeat_-is, loop_-is, exit-is, case_-is, arm-is, empty-is, assignment-is, call-is, in_if-is, in_while-is, in_repeat-is, in_loop-is, in_case-is)
