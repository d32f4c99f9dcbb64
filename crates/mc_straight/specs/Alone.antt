-- Expressions, types and statements of one leaf.
use Rattle.std.specs.Prelude.{◌≡◌, ℕ, [], None, codes}
use Rattle.mc_tree.specs.declared.place.Place.{Place}
use Rattle.mc_tree.specs.declared.tree.Id.{Id}
use Rattle.mc_tree.specs.declared.tree.TypeTree.{TypeTree}
use Rattle.mc_tree.specs.declared.tree.TypeTree.TheOpen.{TypeTree-F}
use Rattle.mc_tree.specs.declared.tree.TypeTree.TheViews.{roll-TypeTree}
use Rattle.mc_tree.specs.declared.expression.Expr.{Expr}
use Rattle.mc_tree.specs.declared.expression.Simple.{Simple}
use Rattle.mc_tree.specs.declared.expression.Term.{Term}
use Rattle.mc_tree.specs.declared.expression.Factor.{Factor}
use Rattle.mc_tree.specs.declared.expression.Designator.{Designator}
use Rattle.mc_tree.specs.declared.expression.Factor.TheOpen.{Factor-F}
use Rattle.mc_tree.specs.declared.expression.Factor.TheViews.{roll-Factor, roll-Term, roll-Simple, roll-Expr, roll-Designator}
use Rattle.mc_tree.specs.declared.statement.Statement.{Statement}
use Rattle.mc_tree.specs.declared.statement.Statement.TheOpen.{Statement-F}
use Rattle.mc_tree.specs.declared.statement.Statement.TheViews.{roll-Statement}

-- a term, a sum and an expression that are one factor alone, without sign or operator
unfoldable pub term_of : Factor → Term
term_of factor = roll-Term (record { first = factor; more = [] })

unfoldable pub simple_of : Factor → Simple
simple_of factor = roll-Simple (record { sign = None; first = term_of factor; more = [] })

unfoldable pub expr_of : Factor → Expr
expr_of factor = roll-Expr (record { left = simple_of factor; compared = None })

unfoldable pub number_factor : ℕ → Place → Factor
number_factor n place = roll-Factor (Factor-F.Number n place)

unfoldable pub character_factor : ℕ → Place → Factor
character_factor byte place = roll-Factor (Factor-F.Character byte place)

-- the expression is a number alone
pub record IsNumber (expr : Expr) (n : ℕ) : Type 0 where
  pub place : Place
  pub is : expr ≡ expr_of (number_factor n place)

-- the expression is a character alone
pub record IsCharacter (expr : Expr) (byte : ℕ) : Type 0 where
  pub place : Place
  pub is : expr ≡ expr_of (character_factor byte place)

-- the type is the standard name `char`
pub record IsChar (of : TypeTree) : Type 0 where
  pub id : Id
  pub is : of ≡ roll-TypeTree (TypeTree-F.Name id)
  pub spelled : id.text ≡ codes "char"

-- a designator that is a name alone, without selectors
unfoldable pub named : Id → Designator
named id = roll-Designator (record { name = id; selectors = [] })

-- NAME := CHARACTER
pub record IsAssigned (statement : Statement) (id : Id) (byte : ℕ) : Type 0 where
  pub becomes : Place
  pub value : Expr
  pub is : statement ≡ roll-Statement (Statement-F.Assignment (named id) becomes value)
  pub character : IsCharacter value byte
