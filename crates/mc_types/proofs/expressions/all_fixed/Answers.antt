use Rattle.std.proofs.Common.{◌≡◌, List, [], ◌∷◌, refl, ap, ◌∙◌, rules, tests, Bool, ◌&&◌}
use Rattle.std.specs.List.{list_all}
use Rattle.std.proofs.lemmas.Iterator.{YieldsList-from_slice}
use Rattle.std.proofs.lemmas.Iterator.Search.{all_from_yields_List}
use Rattle.mc_prog.specs.declared.typing.Typed.{Typed}
use Rattle.mc_prog.specs.ExpressionTypes.{all_fixed}
use Rattle.mc_types.proofs.expressions.all_fixed.Goals as goal

each-fixed : (parts : List Typed) → list_all (λ (t : Typed). t.fixed) parts ≡ all_fixed parts
each-fixed [] = refl
each-fixed (t ∷ parts) = ap (λ (rest : Bool). t.fixed && rest) (each-fixed parts)

pub returns : goal.returns
returns c =
    all_from_yields_List (λ (t : Typed). t.fixed) _ _ _ c.all.ensures.ran (YieldsList-from_slice c.args.parts.now cc) (λ x b q k. search (rules, tests)) ∙ each-fixed c.args.parts.now
