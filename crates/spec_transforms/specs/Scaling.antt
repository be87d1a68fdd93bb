-- Scaling of transform coefficient levels (8.6.3).
use Rattle.std.specs.Prelude.{ℕ, ◌+◌, ◌-◌, ◌*◌, ◌/◌, ◌%◌, ◌^◌, ◌≤◌, ℤ, pos, negsuc, ◌*ℤ◌, ◌≤ℤ◌, slice_index}
use Rattle.spec_arithmetic.specs.Clipping.{clip3}
use Rattle.spec_arithmetic.specs.Rounding.{rounded}
use Rattle.spec_transforms.specs.declared.level_scale.TheConstants.{LEVEL_SCALE}

-- a signed number of 16 bits: what levels, scaled coefficients and what is between the stages of a transform are
abbrev pub Is16 : ℤ → Type 0
Is16 v = (negsuc 32767 ≤ℤ v) × (v ≤ℤ pos 32767)

-- Clip3( -32768, 32767, v )
abbrev pub clip16 : ℤ → ℤ
clip16 v = clip3 (negsuc 32767) (pos 32767) v

-- levelScale[qP % 6] << (qP / 6)
unfoldable pub quantizer : ℕ → ℕ
quantizer qp = slice_index LEVEL_SCALE (qp % 6) * 2 ^ (qp / 6)

-- the scaled coefficient of a level whose scaling factor is m, in a block of size 2^log2 under qP (8.6.3)
unfoldable pub scaled : ℕ → ℕ → ℕ → ℕ → ℤ → ℤ
scaled depth log2 qp m level = clip16 (rounded (depth + log2 - 5) (level *ℤ pos (m * quantizer qp)))

-- the bit depths, the sizes of transform blocks and the parameters qP that there are (7.4.3.2.1, 8.6.1)
abbrev pub IsDepth : ℕ → Type 0
IsDepth depth = (8 ≤ depth) × (depth ≤ 14)

-- those of transform blocks, by the logarithm of their side
abbrev pub IsSize : ℕ → Type 0
IsSize log2 = (2 ≤ log2) × (log2 ≤ 5)

-- qP
abbrev pub IsParameter : ℕ → ℕ → Type 0
IsParameter depth qp = qp ≤ 51 + 6 * (depth - 8)
