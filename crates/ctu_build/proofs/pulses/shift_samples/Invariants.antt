use Rattle.std.proofs.Common.{◌≡◌, ℕ, ◌+◌, ◌*◌, ◌%◌, ◌^◌, ◌<◌, slice_index_or}
use Rattle.ctu_records.specs.declared.item.Item.TheVariants.{Sample}
use Rattle.spec_reconstruction.specs.Pulses.{sample_of}
use Rattle.ctu_build.proofs.pulses.shift_samples.Given as goal

abbrev pub invariant-loop-k : goal.invariant-loop-k
invariant-loop-k l = (i : ℕ) → i < l.k
    → slice_index_or l.out i 0
    ≡ sample_of (slice_index_or l.pulses.items.now (l.pulses.first + i) (Sample 0)) * 2 ^ l.pulses.places % 65536
