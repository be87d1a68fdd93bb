use Rattle.std.proofs.Common.{◌≡◌, ◌<◌, ℕ, ◌+◌, ◌*◌}
use Rattle.inter_pred.specs.Passes.{at, at_z}
use Rattle.inter_pred.specs.Samples.{sample}
use Rattle.inter_pred.proofs.weighting.lines.Given as goal

abbrev pub invariant-loop-y : goal.invariant-loop-y
invariant-loop-y g l = (x y : ℕ) → x < l.width → y < l.y
    → at l.out (64 * y + x)
    ≡ sample g.row.KIND l.scale.depth l.scale.log2_wd l.scale.first l.scale.second (at_z l.p (64 * y + x))
    (at_z l.q (64 * y + x))
