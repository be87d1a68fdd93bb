use Rattle.std.proofs.Common.{◌≡◌, ℕ, ◌*◌, ◌<◌, length, slice_index}
use Rattle.std.specs.Int.{w64, from_le_bytes}
use Rattle.cabac_contexts.specs.Packing.{eight_from}
use Rattle.cabac_contexts.proofs.contexts.Contexts.pack.Given as goal

abbrev pub invariant-loop-k : goal.invariant-loop-k
invariant-loop-k l = record {
  count : length l.words ≡ 20;
  told : (k : ℕ) → k < l.k → slice_index l.words k ≡ from_le_bytes w64 (eight_from l.self (8 * k));
}
