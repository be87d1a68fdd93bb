use Rattle.std.proofs.Common.{◌≡◌, ℕ, ◌+◌, ◌-◌, ◌*◌, ◌^◌, ◌<◌, ◌==◌, cond, nat_le, nat_lt, ◌&&◌, slice_index_or}
use Rattle.std.proofs.Common.{length}
use Rattle.std.proofs.Common.{false}
use Rattle.spec_transforms.specs.Matrices.{at}
use Rattle.ctu_build.specs.Held.{added, cell}
use Rattle.ctu_build.proofs.lines.add_square.Given as goal

abbrev pub invariant-loop-line : goal.invariant-loop-line
invariant-loop-line g l = record {
  count : length l.values ≡ 25155;
  told : (c i j : ℕ) → c < 3 → i < 129 → j < 65
      → slice_index_or l.values (cell c i j) 0
      ≡ cond (c == l.place.c
      && ((nat_le (l.place.x + 1) i && nat_lt i (l.place.x + 1 + 2 ^ l.place.log2))
      && (nat_le (l.place.y + 1) j && nat_lt j (l.place.y + 1 + l.line))))
      (added l.depth (slice_index_or l.known (cell c i j) false)
      (at l.residuals (2 ^ l.place.log2 * (j - (l.place.y + 1)) + (i - (l.place.x + 1))))
      (slice_index_or l.fn.values (cell c i j) 0))
      (slice_index_or l.fn.values (cell c i j) 0);
}
