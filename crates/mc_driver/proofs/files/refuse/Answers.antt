use Rattle.std.proofs.Common.{ℕ, List, [], refl, sym, ◌∙◌, subst, arith}
use Rattle.std.specs.Prelude.{codes}
use Rattle.mc_compile.specs.declared.refusal.Refusal.{Refusal}
use Rattle.mc_shelf.specs.Outside.{View}
use Rattle.mc_driver.specs.Outside.{Says}
use Rattle.mc_driver.specs.Refusal.{source_line, IsSaid}
use Rattle.mc_driver.specs.Stages.{AsksNothing}
use Rattle.mc_driver.proofs.Endings.{says_ends, memory_ends}
use Rattle.mc_driver.proofs.files.refuse.Goals as goal

pub returns-in-Source : goal.returns-in-Source
returns-in-Source g c =
    let S = g.S.Shelf in
    let v : View = S.seen c.args.shelf.now in
    let w : View = S.seen c.say.new.shelf in
    let line : List ℕ = source_line (record { code = c.in-Source.code; place = c.in-Source.place }) in
    let said : Says v line 2 c.say.result w = subst (λ (l : List ℕ). Says v l 2 c.say.result w) (c.as_slice.ensures.value ∙ c.source_line.ensures) c.say.ensures in
    says_ends v w [] (λ files. AsksNothing (IsSaid c.args.refusal)) line 2 c.say.result (λ e. omega arith) said
    (λ files told. (refl, subst (λ (r : Refusal). IsSaid r 2 line) (sym c.in-Source.is) (refl, refl)))

pub returns-in-TooLarge : goal.returns-in-TooLarge
returns-in-TooLarge g c =
    let line : List ℕ = codes "too large\n" in
    says_ends _ _ [] (λ files. AsksNothing (IsSaid c.args.refusal)) line 13 _ (λ e. omega arith) c.say-in-TooLarge.ensures
    (λ files told. (refl, subst (λ (r : Refusal). IsSaid r 13 line) (sym c.in-TooLarge.is) (refl, refl)))

pub returns-in-NotYet : goal.returns-in-NotYet
returns-in-NotYet g c =
    let line : List ℕ = codes "not yet source\n" in
    says_ends _ _ [] (λ files. AsksNothing (IsSaid c.args.refusal)) line 15 _ (λ e. omega arith) c.say-in-NotYet.ensures
    (λ files told. (refl, subst (λ (r : Refusal). IsSaid r 15 line) (sym c.in-NotYet.is) (refl, refl)))

pub returns-in-Memory : goal.returns-in-Memory
returns-in-Memory g c =
    memory_ends _ _ [] (λ files. AsksNothing (IsSaid c.args.refusal)) (record { files = refl; printed = refl; asked = refl; faults = refl })
