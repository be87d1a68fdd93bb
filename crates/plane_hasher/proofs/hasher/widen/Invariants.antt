use Rattle.std.proofs.Common.{◌≡◌, ℕ, ◌+◌, ◌*◌, ◌%◌, ◌<◌, length, slice_index}
use Rattle.std.specs.Prelude.{◌/◌}
use Rattle.plane_hasher.proofs.hasher.widen.Given as goal

abbrev pub invariant-loop-k : goal.invariant-loop-k
invariant-loop-k l = record {
  count : length l.bytes ≡ 2 * length l.samples;
  low : (k : ℕ) → k < l.k → slice_index l.bytes (2 * k) ≡ slice_index l.samples k % 256;
  high : (k : ℕ) → k < l.k → slice_index l.bytes (2 * k + 1) ≡ slice_index l.samples k / 256;
}
