use Rattle.std.proofs.Common.{◌≡◌, ℕ, ◌+◌, ◌==◌, ◌&&◌, nat_lt, unwrap_or, if◌then◌else◌}
use Rattle.unit_build.specs.CtuBuild.{held}
use Rattle.row_borders.specs.Strips.{sample_along}
use Rattle.row_borders.proofs.keep.keep_samples.Given as goal

abbrev pub invariant-loop-k : goal.invariant-loop-k
invariant-loop-k l = record {
  told : (i j : ℕ) → sample_along l.left i j
      ≡ (if i == l.c && nat_lt j l.k then unwrap_or (held l.built.samples l.c l.side (j + 1)) 0
      else sample_along l.fn.left i j);
  places : l.left.places ≡ l.fn.left.places;
  motion : l.left.motion ≡ l.fn.left.motion;
  coded : l.left.coded ≡ l.fn.left.coded;
}
