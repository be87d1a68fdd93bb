use Rattle.std.proofs.Common.{length, min, ◌+◌, ◌-◌}
use Rattle.inter_pred.specs.Passes.{at}
use Rattle.inter_pred.proofs.Lanes.{Holds}
use Rattle.inter_pred.proofs.line.copy_line.Given as goal

abbrev pub invariant-loop-out : goal.invariant-loop-out
invariant-loop-out l = Holds (λ j. min (at l.line (l.from + j)) l.greatest) l.out l.k

abbrev pub decreases-loop-out : goal.decreases-loop-out
decreases-loop-out l = length l.out - l.k

abbrev pub invariant-loop-k : goal.invariant-loop-k
invariant-loop-k l = Holds (λ j. min (at l.line (l.from + j)) l.greatest) l.out l.k

abbrev pub decreases-loop-k : goal.decreases-loop-k
decreases-loop-k l = length l.out - l.k
