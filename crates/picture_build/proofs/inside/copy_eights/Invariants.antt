use Rattle.std.proofs.Common.{◌≡◌, ◌+◌, ◌*◌, length, min}
use Rattle.inter_pred.specs.Passes.{at}
use Rattle.inter_pred.proofs.Lanes.{Holds}
use Rattle.picture_build.proofs.inside.copy_eights.Given as goal

abbrev pub invariant-loop-k : goal.invariant-loop-k
invariant-loop-k g l = (length l.out ≡ g.row.WIDTH)
    × Holds (λ j. min (at l.row (l.from + j)) l.greatest) l.out (min (8 * l.k) g.row.WIDTH)
