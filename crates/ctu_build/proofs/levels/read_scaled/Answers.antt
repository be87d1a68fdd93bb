use Rattle.std.proofs.Common.{ℤ, List, ap, ◌∙◌, slice_index}
use Rattle.ctu_build.specs.Scaled.{scaled_laid}
use Rattle.spec_transforms.specs.Scaling.{scaled}
use Rattle.ctu_build.proofs.levels.read_scaled.Goals as goal

pub returns-clause-value : goal.returns-clause-value
returns-clause-value c depth log2 qp quantizers shifts =
    c.lay_scaled.ensures.value depth log2 qp quantizers shifts
    ∙ ap (λ (l : List ℤ).
    scaled_laid (λ place level. scaled depth log2 qp (slice_index c.args.factors.now place) level) l c.args.items.now)
    c.clear_levels.ensures
