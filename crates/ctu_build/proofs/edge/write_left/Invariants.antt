use Rattle.std.proofs.Common.{◌≤◌, ◌<◌, ◌*◌, ℕ}
use Rattle.ctu_build.specs.Beside.{IsCopied, left_cell}
use Rattle.spec_intra_prediction.specs.Neighbours.{at}
use Rattle.ctu_build.proofs.edge.write_left.Given as goal

abbrev pub invariant-loop-group : goal.invariant-loop-group
invariant-loop-group l =
    (k : ℕ) → 4 * l.below ≤ k → k < 4 * l.group → IsCopied l.beside (left_cell l.beside k) (at l.edge k)
