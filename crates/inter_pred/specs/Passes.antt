-- The passes over a window of a reference picture. Its samples stand at 14 bits in lines of 72; what the lines give
-- stands 6144 above in lines of 64, so that none of it is below 0. A prediction stands 16896 above.
use Rattle.std.specs.Prelude.{ℕ, ◌+◌, ◌*◌, ◌≤◌, ◌==◌, ℤ, pos, negsuc, ◌-ℤ◌, ◌≤ℤ◌, List, map, slice_index_or}
use Rattle.std.specs.Prelude.{if◌then◌else◌}
use Rattle.std.specs.Int.{int_shr}
use Rattle.spec_inter_prediction.specs.Taps.{luma_filter, chroma_filter}

abbrev pub at : List ℕ → ℕ → ℕ
at values k = slice_index_or values k 0

abbrev pub at_z : List ℤ → ℕ → ℤ
at_z values k = slice_index_or values k (pos 0)

-- a sample of 14 bits
abbrev pub IsRaised : ℕ → Type 0
IsRaised sample = sample ≤ 16383

-- a sample of 8 bits
abbrev pub IsByte : ℕ → Type 0
IsByte sample = sample ≤ 255

-- what a line gives, 6144 above
abbrev pub IsMiddle : ℕ → Type 0
IsMiddle value = value ≤ 28672

-- what a prediction holds, from 16896 above
abbrev pub value_of : ℕ → ℤ
value_of held = pos held -ℤ pos 16896

abbrev pub values : List ℕ → List ℤ
values = map (λ u. value_of u)

-- what a sample before its weights stays within
abbrev pub IsSmall : ℤ → Type 0
IsSmall z = (negsuc 262142 ≤ℤ z) × (z ≤ℤ pos 262143)

-- the filter of so many taps, 8 or 4, at a fraction
abbrev pub filter : ℕ → ℕ → (ℕ → ℤ) → ℤ
filter taps fraction s = if taps == 8 then luma_filter fraction s else chroma_filter fraction s

-- the samples from a place of a window on, so many places apart, by the filter
unfoldable pub tapped : ℕ → ℕ → ℕ → List ℕ → ℕ → ℤ
tapped taps fraction step window place = filter taps fraction (λ i. pos (at window (place + step * i)))

-- what a line gives at a place of the window
unfoldable pub across : ℕ → ℕ → List ℕ → ℕ → ℤ
across taps fraction window place = int_shr (filter taps fraction (λ i. pos (at window (place + i)))) 6

-- what a column of that gives at a place
unfoldable pub down : ℕ → ℕ → List ℕ → ℕ → ℤ
down taps fraction middle place = int_shr (filter taps fraction (λ j. pos (at middle (place + 64 * j)) -ℤ pos 6144)) 6
