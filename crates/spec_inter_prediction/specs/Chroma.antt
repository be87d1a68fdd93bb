-- Chroma sample interpolation (8.5.3.3.3.3) in 4:2:0: a vector in quarters of a luma sample is one in eighths of a
-- chroma sample.
use Rattle.std.specs.Prelude.{ℕ, ℤ, pos, ◌+ℤ◌, ◌-ℤ◌}
use Rattle.std.specs.Int.{int_shr, int_rem_euclid}
use Rattle.std.specs.Int.RustNames.{unsigned_abs}
use Rattle.spec_inter_prediction.specs.Taps.{chroma_filter, filtered}

-- xFracC or yFracC of a vector: eighths of a chroma sample
unfoldable pub eighth : ℤ → ℕ
eighth v = unsigned_abs (int_rem_euclid v (pos 8))

-- where the four samples of a place begin, one before the whole place that a vector leads to
abbrev pub chroma_first : ℕ → ℤ → ℤ
chroma_first place v = pos place +ℤ int_shr v 3 -ℤ pos 1

-- predSampleLXC: the sample at (x, y) of a chroma component by the vector (across, down)
unfoldable pub chroma_sample : ℕ → (ℤ → ℤ → ℕ) → ℤ → ℤ → ℕ → ℕ → ℤ
chroma_sample depth reference across down x y =
    filtered (chroma_filter (eighth across)) (chroma_filter (eighth down)) depth
    (λ i j. pos (reference (chroma_first x across +ℤ pos i) (chroma_first y down +ℤ pos j)))
