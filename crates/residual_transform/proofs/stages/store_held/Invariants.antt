use Rattle.std.proofs.Common.{◌≡◌, ℕ, ◌+◌, ◌<◌, length}
use Rattle.std.specs.List.{All}
use Rattle.spec_arithmetic.specs.Rounding.{rounded}
use Rattle.spec_transforms.specs.Matrices.{at}
use Rattle.spec_transforms.specs.Scaling.{Is16, clip16}
use Rattle.residual_transform.proofs.stages.store_held.Given as goal

abbrev pub invariant-loop-j : goal.invariant-loop-j
invariant-loop-j g l = record {
  here : (i : ℕ) → i < l.j → at l.out (l.start + i) ≡ clip16 (rounded 7 (at l.sums i));
  before : (i : ℕ) → i < l.start → at l.out i ≡ at l.fn.out i;
  small : All Is16 l.out;
  long : length l.out ≡ g.row.AREA;
}
