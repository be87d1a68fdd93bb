-- Numbers that are held to a range (5.8).
use Rattle.std.specs.Prelude.{ℕ, ◌-◌, ◌^◌, max, min, ℤ, pos}
use Rattle.std.specs.Int.{int_max, int_min}
use Rattle.std.specs.Int.RustNames.{unsigned_abs}

-- Clip3( x, y, z ), where x isn't above y (5.8)
abbrev pub clip3 : ℤ → ℤ → ℤ → ℤ
clip3 x y z = int_max x (int_min z y)

-- the same of numbers that aren't below 0 (5.8)
abbrev pub nat_clip3 : ℕ → ℕ → ℕ → ℕ
nat_clip3 x y z = max x (min z y)

-- Clip3( 0, greatest, z ), which isn't below 0 (5.8)
abbrev pub clip3_from_zero : ℕ → ℤ → ℕ
clip3_from_zero greatest z = unsigned_abs (clip3 (pos 0) (pos greatest) z)

-- Clip1Y( z ) or Clip1C( z ), by the bit depth: Clip3( 0, ( 1 << BitDepth ) - 1, z ) (5.8)
abbrev pub clip1 : ℕ → ℤ → ℕ
clip1 depth z = clip3_from_zero (2 ^ depth - 1) z
