use Rattle.std.proofs.Common.{◌≡◌, ℕ, ◌<◌, length, slice_index, All}
use Rattle.spec_cabac.specs.Contexts.{first_context}
use Rattle.stream_maker.proofs.slices.initialized.Given as goal

abbrev pub invariant-loop-i : goal.invariant-loop-i
invariant-loop-i l = record {
  count : length l.values ≡ 154;
  told : (k : ℕ) → k < l.i → slice_index l.values k ≡ first_context 26 (slice_index l.init_values k);
  small : All (λ value. value < 126) l.values;
}
