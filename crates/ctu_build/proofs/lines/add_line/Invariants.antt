use Rattle.std.proofs.Common.{◌≡◌, ◌<◌, ℕ, ◌+◌, length, slice_index_or, false}
use Rattle.spec_transforms.specs.Matrices.{at}
use Rattle.ctu_build.specs.Held.{added}
use Rattle.ctu_build.proofs.lines.add_line.Given as goal

abbrev pub invariant-loop-k : goal.invariant-loop-k
invariant-loop-k g l = record {
  told : (j : ℕ) → j < l.k → slice_index_or l.sums j 0
      ≡ added l.depth (slice_index_or l.known (l.line.first + j) false) (at l.residuals (l.line.from + j))
      (slice_index_or l.values (l.line.first + j) 0);
  long : length l.sums ≡ g.row.N;
}
