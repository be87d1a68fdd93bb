-- The interpolation filters (8.5.3.3.3.2, 8.5.3.3.3.3), and how they run over a picture. Samples of one line, or
-- column, beside each other are a to h; d is the whole place of luma, and b that of chroma.
use Rattle.std.specs.Prelude.{ℕ, ◌-◌, ◌≤◌, ◌==◌, ℤ, pos, ◌+ℤ◌, ◌-ℤ◌, ◌*ℤ◌, if◌then◌else◌}
use Rattle.std.specs.Int.{int_shr}
use Rattle.block_geometry.specs.SpecArithmetic.{clip3_from_zero}

-- the luma filter at a quarter of a sample: 64 times the sample at a whole place
unfoldable pub luma_taps : ℕ → ℤ → ℤ → ℤ → ℤ → ℤ → ℤ → ℤ → ℤ → ℤ
luma_taps quarter a b c d e f g h =
    if quarter == 0 then pos 64 *ℤ d
    else (if quarter == 1 then pos 4 *ℤ b -ℤ a -ℤ pos 10 *ℤ c +ℤ pos 58 *ℤ d +ℤ pos 17 *ℤ e -ℤ pos 5 *ℤ f +ℤ g
    else (if quarter == 2
    then pos 4 *ℤ b -ℤ a -ℤ pos 11 *ℤ c +ℤ pos 40 *ℤ d +ℤ pos 40 *ℤ e -ℤ pos 11 *ℤ f +ℤ pos 4 *ℤ g -ℤ h
    else b -ℤ pos 5 *ℤ c +ℤ pos 17 *ℤ d +ℤ pos 58 *ℤ e -ℤ pos 10 *ℤ f +ℤ pos 4 *ℤ g -ℤ h))

-- the chroma filter at an eighth of a sample
unfoldable pub chroma_taps : ℕ → ℤ → ℤ → ℤ → ℤ → ℤ
chroma_taps eighth a b c d =
    if eighth == 0 then pos 64 *ℤ b
    else (if eighth == 1 then pos 58 *ℤ b -ℤ pos 2 *ℤ a +ℤ pos 10 *ℤ c -ℤ pos 2 *ℤ d
    else (if eighth == 2 then pos 54 *ℤ b -ℤ pos 4 *ℤ a +ℤ pos 16 *ℤ c -ℤ pos 2 *ℤ d
    else (if eighth == 3 then pos 46 *ℤ b -ℤ pos 6 *ℤ a +ℤ pos 28 *ℤ c -ℤ pos 4 *ℤ d
    else (if eighth == 4 then pos 36 *ℤ b -ℤ pos 4 *ℤ a +ℤ pos 36 *ℤ c -ℤ pos 4 *ℤ d
    else (if eighth == 5 then pos 28 *ℤ b -ℤ pos 4 *ℤ a +ℤ pos 46 *ℤ c -ℤ pos 6 *ℤ d
    else (if eighth == 6 then pos 16 *ℤ b -ℤ pos 2 *ℤ a +ℤ pos 54 *ℤ c -ℤ pos 4 *ℤ d
    else pos 10 *ℤ b -ℤ pos 2 *ℤ a +ℤ pos 58 *ℤ c -ℤ pos 2 *ℤ d))))))

-- the same of the first samples of a sequence
abbrev pub luma_filter : ℕ → (ℕ → ℤ) → ℤ
luma_filter quarter s = luma_taps quarter (s 0) (s 1) (s 2) (s 3) (s 4) (s 5) (s 6) (s 7)

-- that of chroma
abbrev pub chroma_filter : ℕ → (ℕ → ℤ) → ℤ
chroma_filter eighth s = chroma_taps eighth (s 0) (s 1) (s 2) (s 3)

-- a sample of 14 bits by a filter across and one down, over columns i and lines j: the lines in units of 2^shift1,
-- where shift1 is BitDepth - 8, and the column of what they give in units of 2^shift2, where shift2 is 6
abbrev pub filtered : ((ℕ → ℤ) → ℤ) → ((ℕ → ℤ) → ℤ) → ℕ → (ℕ → ℕ → ℤ) → ℤ
filtered across down depth s = int_shr (down (λ j. int_shr (across (λ i. s i j)) (depth - 8))) 6

-- a coordinate of a reference picture whose side has so many samples: Clip3( 0, side - 1, v )
unfoldable pub clamped : ℤ → ℕ → ℕ
clamped v side = clip3_from_zero (side - 1) v

-- the bit depths that there are (7.4.3.2.1)
abbrev pub IsDepth : ℕ → Type 0
IsDepth depth = (8 ≤ depth) × (depth ≤ 14)
