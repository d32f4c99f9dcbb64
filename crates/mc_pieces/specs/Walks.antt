-- What the steps of a walk do to what is gathered.
use Rattle.std.specs.Prelude.{ℕ, List, [], ◌++◌, Some, None}
use Rattle.mc_tree.specs.declared.place.Place.{Place}
use Rattle.mc_tree.specs.declared.expression.Expr.{Expr}
use Rattle.mc_tree.specs.declared.statement.Body.{Body}
use Rattle.mc_tree.specs.declared.tree.After.{After}
use Rattle.mc_prog.specs.Pieces.{Gather, Around}
use Rattle.mc_prog.specs.ExpressionPieces.{expr, index}
use Rattle.mc_prog.specs.StatementPieces.{body, body_behind}

-- with no parts so far
abbrev pub emptied : Gather
emptied g = record { pieces = g.pieces; around = g.around; parts = [] }

-- with these parts, and no others
abbrev pub with_parts : List ℕ → Gather
with_parts parts g = record { pieces = g.pieces; around = g.around; parts = parts }

-- with these parts before those so far
abbrev pub behind : List ℕ → Gather
behind parts g = record { pieces = g.pieces; around = g.around; parts = parts ++ g.parts }

-- standing there
abbrev pub placed : Around → Gather
placed around g = record { pieces = g.pieces; around = around; parts = g.parts }

-- where a module or what it declares stands
abbrev pub in_module_at : Place → Around
in_module_at place = record { module_at = place; code_at = None }

abbrev pub in_code_at : Place → Around → Around
in_code_at place around = record { module_at = around.module_at; code_at = Some place }

-- an index, behind the designator before it
abbrev pub indexed : Expr → Gather
indexed e g = index (expr e) g

-- the body behind a word, where that stands with it
abbrev pub marked_body : After Body → Gather
marked_body b g = body_behind b.mark (body b.item) g
