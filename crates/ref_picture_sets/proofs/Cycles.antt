-- The cycles of long-term entries.
use Rattle.std.proofs.Common.{ℕ, ◌≡◌, ◌+◌, ◌==◌, if◌then◌else◌, add-one, refl}
use Rattle.slice_types.specs.declared.slice.LongTermRefs.{LongTermRefs}
use Rattle.spec_reference_pictures.specs.ReferencePictureSet.{msb_cycle_before, own_cycle}

pub cycle_more : (long : LongTermRefs) (i : ℕ)
    → msb_cycle_before long (i + 1)
    ≡ (if i == long.num_long_term_sps then own_cycle long i else own_cycle long i + msb_cycle_before long i)
unfolding msb_cycle_before
cycle_more long i = rw (add-one) refl
