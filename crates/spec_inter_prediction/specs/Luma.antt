-- Luma sample interpolation (8.5.3.3.3.2).
use Rattle.std.specs.Prelude.{ℕ, ℤ, pos, ◌+ℤ◌, ◌-ℤ◌}
use Rattle.std.specs.Int.{int_shr, int_rem_euclid}
use Rattle.std.specs.Int.RustNames.{unsigned_abs}
use Rattle.spec_inter_prediction.specs.Taps.{luma_filter, filtered}

-- xFracL or yFracL of a vector: quarters of a sample
unfoldable pub quarter : ℤ → ℕ
quarter v = unsigned_abs (int_rem_euclid v (pos 4))

-- where the eight samples of a place begin, three before the whole place that a vector leads to
abbrev pub luma_first : ℕ → ℤ → ℤ
luma_first place v = pos place +ℤ int_shr v 2 -ℤ pos 3

-- predSampleLXL: the sample at (x, y) by the vector (across, down), from a reference picture that has a sample at every
-- place. Whole places are those at 0 quarters.
unfoldable pub luma_sample : ℕ → (ℤ → ℤ → ℕ) → ℤ → ℤ → ℕ → ℕ → ℤ
luma_sample depth reference across down x y =
    filtered (luma_filter (quarter across)) (luma_filter (quarter down)) depth
    (λ i j. pos (reference (luma_first x across +ℤ pos i) (luma_first y down +ℤ pos j)))
