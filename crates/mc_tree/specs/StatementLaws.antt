-- What each node of a statement writes, by its parts.
use Rattle.std.specs.Prelude.{◌≡◌, ℕ, suc, List, Option, Some, None}
use Rattle.std.proofs.Common.{ap, ◌∙◌}
use Rattle.mc_tree.specs.declared.place.Place.{Place}
use Rattle.mc_tree.specs.declared.token.Kind.TheVariants.{Reserved as ReservedKind, Name}
use Rattle.mc_tree.specs.declared.tree.Id.{Id}
use Rattle.mc_tree.specs.declared.tree.After.{After}
use Rattle.mc_tree.specs.declared.token.Reserved.TheVariants.{BeginWord, CaseWord, DoWord, ElseWord, ElsifWord, EndWord, ExitWord, IfWord, LoopWord, OfWord, RepeatWord, ThenWord, UntilWord, WhenWord, WhileWord}
use Rattle.mc_tree.specs.declared.token.Symbol.TheVariants.{Comma, Semicolon, Colon, Becomes}
use Rattle.mc_tree.specs.declared.expression.Expr.{Expr}
use Rattle.mc_tree.specs.declared.expression.Designator.{Designator}
use Rattle.mc_tree.specs.declared.expression.Args.{Args}
use Rattle.mc_tree.specs.declared.statement.Statement.{Statement}
use Rattle.mc_tree.specs.declared.statement.Arm.{Arm}
use Rattle.mc_tree.specs.declared.statement.Body.{Body}
use Rattle.mc_tree.specs.declared.statement.Case.{Case}
use Rattle.mc_tree.specs.declared.statement.Elsif.{Elsif}
use Rattle.mc_tree.specs.declared.statement.Exit.{Exit}
use Rattle.mc_tree.specs.declared.statement.If.{If}
use Rattle.mc_tree.specs.declared.statement.Loop.{Loop}
use Rattle.mc_tree.specs.declared.statement.Repeat.{Repeat}
use Rattle.mc_tree.specs.declared.statement.While.{While}
use Rattle.mc_tree.specs.declared.statement.Statement.TheOpen.{Statement-F}
use Rattle.mc_tree.specs.declared.statement.Statement.TheFolds.{fold-roll-Statement, fold-roll-Arm, fold-roll-Body, fold-roll-Case, fold-roll-Elsif, fold-roll-Exit, fold-roll-If, fold-roll-Loop, fold-roll-Repeat, fold-roll-While}
use Rattle.mc_tree.specs.declared.statement.Statement.TheViews.{roll-Statement, roll-Arm, roll-Body, roll-Case, roll-Elsif, roll-Exit, roll-If, roll-Loop, roll-Repeat, roll-While}
use Rattle.mc_tree.specs.Leaves.{Leaf, Writes, begin, word, mark, each, maybe, after, after_word}
use Rattle.mc_tree.specs.Expressions.{expr, args, designator}
use Rattle.mc_tree.specs.ExpressionLaws.{each-map, each-map_after}
use Rattle.mc_tree.specs.Statements.{statement, arm, body, case_, elsif, exit, if_, loop_, repeat_, while_, statement_step, arm_step, body_step, case__step, elsif_step, exit_step, if__step, loop__step, repeat__step, while__step}

pub empty-is : (d : ℕ) (rest : List Leaf)
    → statement (roll-Statement Statement-F.Empty) d rest ≡ rest
unfolding statement
empty-is d rest = ap (λ (w : Writes). w d rest) (fold-roll-Statement Writes Writes Writes Writes Writes Writes Writes Writes Writes Writes statement_step arm_step body_step case__step elsif_step exit_step if__step loop__step repeat__step while__step Statement-F.Empty)

pub assignment-is : (target : Designator) (becomes : Place) (value : Expr) (d : ℕ) (rest : List Leaf)
    → statement (roll-Statement (Statement-F.Assignment target becomes value)) d rest ≡ designator target d (mark Becomes becomes (expr value (suc d) rest))
unfolding statement
assignment-is target becomes value d rest = ap (λ (w : Writes). w d rest) (fold-roll-Statement Writes Writes Writes Writes Writes Writes Writes Writes Writes Writes statement_step arm_step body_step case__step elsif_step exit_step if__step loop__step repeat__step while__step (Statement-F.Assignment target becomes value))

pub call-is : (id : Id) (arguments : Option Args) (d : ℕ) (rest : List Leaf)
    → statement (roll-Statement (Statement-F.Call id arguments)) d rest ≡ begin (suc d) (Name id.text) id.place (maybe args arguments (suc d) rest)
unfolding statement
call-is id arguments d rest = ap (λ (w : Writes). w d rest) (fold-roll-Statement Writes Writes Writes Writes Writes Writes Writes Writes Writes Writes statement_step arm_step body_step case__step elsif_step exit_step if__step loop__step repeat__step while__step (Statement-F.Call id arguments))

pub if_statement-is : (s : If) (d : ℕ) (rest : List Leaf)
    → statement (roll-Statement (Statement-F.If s)) d rest ≡ if_ s d rest
unfolding if_ statement
if_statement-is s d rest = ap (λ (w : Writes). w d rest) (fold-roll-Statement Writes Writes Writes Writes Writes Writes Writes Writes Writes Writes statement_step arm_step body_step case__step elsif_step exit_step if__step loop__step repeat__step while__step (Statement-F.If s))

pub while_statement-is : (s : While) (d : ℕ) (rest : List Leaf)
    → statement (roll-Statement (Statement-F.While s)) d rest ≡ while_ s d rest
unfolding statement while_
while_statement-is s d rest = ap (λ (w : Writes). w d rest) (fold-roll-Statement Writes Writes Writes Writes Writes Writes Writes Writes Writes Writes statement_step arm_step body_step case__step elsif_step exit_step if__step loop__step repeat__step while__step (Statement-F.While s))

pub repeat_statement-is : (s : Repeat) (d : ℕ) (rest : List Leaf)
    → statement (roll-Statement (Statement-F.Repeat s)) d rest ≡ repeat_ s d rest
unfolding repeat_ statement
repeat_statement-is s d rest = ap (λ (w : Writes). w d rest) (fold-roll-Statement Writes Writes Writes Writes Writes Writes Writes Writes Writes Writes statement_step arm_step body_step case__step elsif_step exit_step if__step loop__step repeat__step while__step (Statement-F.Repeat s))

pub loop_statement-is : (s : Loop) (d : ℕ) (rest : List Leaf)
    → statement (roll-Statement (Statement-F.Loop s)) d rest ≡ loop_ s d rest
unfolding loop_ statement
loop_statement-is s d rest = ap (λ (w : Writes). w d rest) (fold-roll-Statement Writes Writes Writes Writes Writes Writes Writes Writes Writes Writes statement_step arm_step body_step case__step elsif_step exit_step if__step loop__step repeat__step while__step (Statement-F.Loop s))

pub case_statement-is : (s : Case) (d : ℕ) (rest : List Leaf)
    → statement (roll-Statement (Statement-F.Case s)) d rest ≡ case_ s d rest
unfolding case_ statement
case_statement-is s d rest = ap (λ (w : Writes). w d rest) (fold-roll-Statement Writes Writes Writes Writes Writes Writes Writes Writes Writes Writes statement_step arm_step body_step case__step elsif_step exit_step if__step loop__step repeat__step while__step (Statement-F.Case s))

pub body-is : (first : Statement) (more : List (After Statement)) (d : ℕ) (rest : List Leaf)
    → body (roll-Body (record { first = first; more = more })) d rest ≡ statement first d (each (after Semicolon statement) more d rest)
unfolding body statement
body-is first more d rest = ap (λ (w : Writes). w d rest) (fold-roll-Body Writes Writes Writes Writes Writes Writes Writes Writes Writes Writes statement_step arm_step body_step case__step elsif_step exit_step if__step loop__step repeat__step while__step (record { first = first; more = more })) ∙ ap (λ (z : List Leaf). statement first d (z)) (each-map_after Semicolon statement more d rest)

pub if_-is : (place : Place) (condition : Expr) (then : Place) (inner : Body) (elsifs : List Elsif) (otherwise : Option (After Body)) (end : Place) (d : ℕ) (rest : List Leaf)
    → if_ (roll-If (record { word = place; condition = condition; then = then; body = inner; elsifs = elsifs; otherwise = otherwise; end = end })) d rest ≡ begin (suc d) (ReservedKind IfWord) place (expr condition (suc d) (word ThenWord then (body inner (suc d) (each elsif elsifs (suc d) (maybe (after_word ElseWord body) otherwise (suc d) (word EndWord end rest))))))
unfolding body elsif if_
if_-is place condition then inner elsifs None end d rest = ap (λ (w : Writes). w d rest) (fold-roll-If Writes Writes Writes Writes Writes Writes Writes Writes Writes Writes statement_step arm_step body_step case__step elsif_step exit_step if__step loop__step repeat__step while__step (record { word = place; condition = condition; then = then; body = inner; elsifs = elsifs; otherwise = None; end = end })) ∙ ap (λ (z : List Leaf). begin (suc d) (ReservedKind IfWord) place (expr condition (suc d) (word ThenWord then (body inner (suc d) (z))))) (each-map elsif elsifs (suc d) _)
if_-is place condition then inner elsifs (Some x) end d rest = ap (λ (w : Writes). w d rest) (fold-roll-If Writes Writes Writes Writes Writes Writes Writes Writes Writes Writes statement_step arm_step body_step case__step elsif_step exit_step if__step loop__step repeat__step while__step (record { word = place; condition = condition; then = then; body = inner; elsifs = elsifs; otherwise = (Some x); end = end })) ∙ ap (λ (z : List Leaf). begin (suc d) (ReservedKind IfWord) place (expr condition (suc d) (word ThenWord then (body inner (suc d) (z))))) (each-map elsif elsifs (suc d) _)

pub elsif-is : (place : Place) (condition : Expr) (then : Place) (inner : Body) (d : ℕ) (rest : List Leaf)
    → elsif (roll-Elsif (record { word = place; condition = condition; then = then; body = inner })) d rest ≡ word ElsifWord place (expr condition d (word ThenWord then (body inner d rest)))
unfolding body elsif
elsif-is place condition then inner d rest = ap (λ (w : Writes). w d rest) (fold-roll-Elsif Writes Writes Writes Writes Writes Writes Writes Writes Writes Writes statement_step arm_step body_step case__step elsif_step exit_step if__step loop__step repeat__step while__step (record { word = place; condition = condition; then = then; body = inner }))

pub while_-is : (place : Place) (condition : Expr) (do_ : Place) (inner : Body) (end : Place) (d : ℕ) (rest : List Leaf)
    → while_ (roll-While (record { word = place; condition = condition; do_ = do_; body = inner; end = end })) d rest ≡ begin (suc d) (ReservedKind WhileWord) place (expr condition (suc d) (word DoWord do_ (body inner (suc d) (word EndWord end rest))))
unfolding body while_
while_-is place condition do_ inner end d rest = ap (λ (w : Writes). w d rest) (fold-roll-While Writes Writes Writes Writes Writes Writes Writes Writes Writes Writes statement_step arm_step body_step case__step elsif_step exit_step if__step loop__step repeat__step while__step (record { word = place; condition = condition; do_ = do_; body = inner; end = end }))

pub repeat_-is : (place : Place) (inner : Body) (until : Place) (condition : Expr) (d : ℕ) (rest : List Leaf)
    → repeat_ (roll-Repeat (record { word = place; body = inner; until = until; condition = condition })) d rest ≡ begin (suc d) (ReservedKind RepeatWord) place (body inner (suc d) (word UntilWord until (expr condition (suc d) rest)))
unfolding body repeat_
repeat_-is place inner until condition d rest = ap (λ (w : Writes). w d rest) (fold-roll-Repeat Writes Writes Writes Writes Writes Writes Writes Writes Writes Writes statement_step arm_step body_step case__step elsif_step exit_step if__step loop__step repeat__step while__step (record { word = place; body = inner; until = until; condition = condition }))

pub loop_-is : (place : Place) (inner : Body) (exits : List Exit) (end : Place) (d : ℕ) (rest : List Leaf)
    → loop_ (roll-Loop (record { word = place; body = inner; exits = exits; end = end })) d rest ≡ begin (suc d) (ReservedKind LoopWord) place (body inner (suc d) (each exit exits (suc d) (word EndWord end rest)))
unfolding body exit loop_
loop_-is place inner exits end d rest = ap (λ (w : Writes). w d rest) (fold-roll-Loop Writes Writes Writes Writes Writes Writes Writes Writes Writes Writes statement_step arm_step body_step case__step elsif_step exit_step if__step loop__step repeat__step while__step (record { word = place; body = inner; exits = exits; end = end })) ∙ ap (λ (z : List Leaf). begin (suc d) (ReservedKind LoopWord) place (body inner (suc d) (z))) (each-map exit exits (suc d) (word EndWord end rest))

pub exit-is : (when : Place) (condition : Expr) (last : Option (After Body)) (place : Place) (inner : Body) (d : ℕ) (rest : List Leaf)
    → exit (roll-Exit (record { when = when; condition = condition; last = last; exit = place; body = inner })) d rest ≡ word WhenWord when (expr condition d (maybe (after_word DoWord body) last d (word ExitWord place (body inner d rest))))
unfolding body exit
exit-is when condition None place inner d rest = ap (λ (w : Writes). w d rest) (fold-roll-Exit Writes Writes Writes Writes Writes Writes Writes Writes Writes Writes statement_step arm_step body_step case__step elsif_step exit_step if__step loop__step repeat__step while__step (record { when = when; condition = condition; last = None; exit = place; body = inner }))
exit-is when condition (Some x) place inner d rest = ap (λ (w : Writes). w d rest) (fold-roll-Exit Writes Writes Writes Writes Writes Writes Writes Writes Writes Writes statement_step arm_step body_step case__step elsif_step exit_step if__step loop__step repeat__step while__step (record { when = when; condition = condition; last = (Some x); exit = place; body = inner }))

pub case_-is : (place : Place) (choice : Expr) (of : Place) (first : Arm) (more : List (After Arm)) (end : Place) (d : ℕ) (rest : List Leaf)
    → case_ (roll-Case (record { word = place; choice = choice; of = of; first = first; more = more; end = end })) d rest ≡ begin (suc d) (ReservedKind CaseWord) place (expr choice (suc d) (word OfWord of (arm first (suc d) (each (after Semicolon arm) more (suc d) (word EndWord end rest)))))
unfolding arm case_
case_-is place choice of first more end d rest = ap (λ (w : Writes). w d rest) (fold-roll-Case Writes Writes Writes Writes Writes Writes Writes Writes Writes Writes statement_step arm_step body_step case__step elsif_step exit_step if__step loop__step repeat__step while__step (record { word = place; choice = choice; of = of; first = first; more = more; end = end })) ∙ ap (λ (z : List Leaf). begin (suc d) (ReservedKind CaseWord) place (expr choice (suc d) (word OfWord of (arm first (suc d) (z))))) (each-map_after Semicolon arm more (suc d) (word EndWord end rest))

pub arm-is : (first : Expr) (more : List (After Expr)) (colon : Place) (begin_ : Place) (inner : Body) (end : Place) (d : ℕ) (rest : List Leaf)
    → arm (roll-Arm (record { first = first; more = more; colon = colon; begin = begin_; body = inner; end = end })) d rest ≡ expr first d (each (after Comma expr) more d (mark Colon colon (word BeginWord begin_ (body inner d (word EndWord end rest)))))
unfolding arm body
arm-is first more colon begin_ inner end d rest = ap (λ (w : Writes). w d rest) (fold-roll-Arm Writes Writes Writes Writes Writes Writes Writes Writes Writes Writes statement_step arm_step body_step case__step elsif_step exit_step if__step loop__step repeat__step while__step (record { first = first; more = more; colon = colon; begin = begin_; body = inner; end = end }))
