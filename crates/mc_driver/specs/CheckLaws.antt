-- To a source `check` has one answer.
use Rattle.std.specs.Prelude.{◌≡◌, ℕ, List}
use Rattle.std.proofs.Common.{ap, sym, ◌∙◌}
use Rattle.mc_compile.specs.Laws.{one_source_fault, faultless_no_fault, accepted_not_large}
use Rattle.mc_driver.specs.Refusal.{source_line}
use Rattle.mc_driver.specs.CheckAnswer.{AfterChecking, fails_check, exceeds_size, passes}

pub AfterChecking-unique : (source : List ℕ) (status other : ℕ) (text another : List ℕ) → AfterChecking source status text → AfterChecking source other another → (status ≡ other) × (text ≡ another)
AfterChecking-unique source status other text another (fails_check f h line) (fails_check g k last) =
    (line.0 ∙ sym last.0, line.1 ∙ ap source_line (one_source_fault source f g h k) ∙ sym last.1)
AfterChecking-unique source status other text another (fails_check f h line) (exceeds_size large last) = absurd (faultless_no_fault source large.program f large.faultless h)
AfterChecking-unique source status other text another (fails_check f h line) (passes p accepted last) = absurd (faultless_no_fault source p f accepted.faultless h)
AfterChecking-unique source status other text another (exceeds_size large line) (fails_check g k last) = absurd (faultless_no_fault source large.program g large.faultless k)
AfterChecking-unique source status other text another (exceeds_size large line) (exceeds_size larger last) = (line.0 ∙ sym last.0, line.1 ∙ sym last.1)
AfterChecking-unique source status other text another (exceeds_size large line) (passes p accepted last) = absurd (accepted_not_large source p accepted large)
AfterChecking-unique source status other text another (passes p accepted line) (fails_check g k last) = absurd (faultless_no_fault source p g accepted.faultless k)
AfterChecking-unique source status other text another (passes p accepted line) (exceeds_size large last) = absurd (accepted_not_large source p accepted large)
AfterChecking-unique source status other text another (passes p accepted line) (passes q also last) = (line.0 ∙ sym last.0, line.1 ∙ sym last.1)
