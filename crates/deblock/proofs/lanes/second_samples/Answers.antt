use Rattle.std.proofs.Common.{◌/◌, ap, ◌∙◌}
use Rattle.std.proofs.Common.{ℤ, List, ℕ}
use Rattle.spec_deblocking.specs.Filters.{moved, within}
use Rattle.deblock.specs.Lanes.{lane}
use Rattle.deblock.proofs.Vectors.{second_no, second_yes}
use Rattle.deblock.proofs.lanes.second_samples.Goals.{then-changes, else-changes}
use Rattle.deblock.proofs.lanes.second_samples.Goals as goal

pub returns-clause-value : goal.returns-clause-value
returns-clause-value c k lt = elim c.if-changes.branch [
  | then-changes w ↦
      ap (λ (v : List ℕ). lane v k) w.result-is ∙ w.moved.ensures.value k lt
      ∙ ap (λ (z : ℤ). moved c.args.greatest (lane c.args.middle k) z)
      (w.within.ensures.value k lt ∙ ap (λ (z : ℤ). within (c.args.tc / 2) z) (w.half_steps-steps.ensures.value k lt))
      ∙ second_yes _ _ _ _ _ _ _ w.if-changes.true
  | else-changes w ↦ ap (λ (v : List ℕ). lane v k) w.result-is ∙ second_no _ _ _ _ _ _ _ w.if-changes.false
]
