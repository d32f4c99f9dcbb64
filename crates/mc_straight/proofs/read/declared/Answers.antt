use Rattle.std.proofs.Common.{◌∙◌, List, ◌∷◌, [], ap, sym, arith}
use Rattle.mc_tree.specs.declared.tree.Decl.TheVariants as decl
use Rattle.mc_tree.specs.declared.tree.DevicePart.{DevicePart}
use Rattle.mc_tree.specs.declared.tree.DevicePart.TheVariants as device_part
use Rattle.mc_tree.specs.declared.tree.Var.{Var}
use Rattle.mc_straight.proofs.Paired.{only}
use Rattle.mc_straight.proofs.read.declared.Goals as goal

pub returns-in-Var : goal.returns-in-Var
returns-in-Var c =
    let one = only c.args.block.now.parts c.in_ok-part.field-0.now (omega arith) c.in_ok-part.ensures.value in
    record {
      var = c.in-Var.field-0;
      is = one ∙ ap (λ (p : DevicePart). p ∷ []) (c.in-Decl.is ∙ ap device_part.Decl c.in-Var.is) ∙ ap (λ (m : List Var). device_part.Decl (decl.Var c.in-Var.field-0 c.in-Var.first m) ∷ []) (sym c.as_slice.ensures);
    }
