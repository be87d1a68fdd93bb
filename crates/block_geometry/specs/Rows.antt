-- Rows of coding tree blocks of a picture, and the luma lines that a filter reads.
use Rattle.std.specs.Prelude.{ℕ, ◌-◌, ◌/◌, ◌^◌, ℤ, pos, ◌+ℤ◌, ◌-ℤ◌}
use Rattle.std.specs.Int.{int_shr}
use Rattle.spec_arithmetic.specs.Clipping.{clip3_from_zero}

-- a luma line, clamped into a picture of this height
abbrev pub line_in : ℕ → ℤ → ℕ
line_in height y = clip3_from_zero (height - 1) y

-- the row of coding tree blocks that has a luma line, clamped into a picture of this height
abbrev pub row_of_line : ℕ → ℕ → ℤ → ℕ
row_of_line height ctb_log2 y = line_in height y / 2 ^ ctb_log2

-- the luma line that a tap of the 8-tap filter reads for line y, with a vertical vector in quarter samples (8.5.3.3.3)
abbrev pub tap_line : ℕ → ℤ → ℕ → ℤ
tap_line y my tap = pos y +ℤ int_shr my 2 +ℤ pos tap -ℤ pos 3
