-- Bounds of what a stage of a transform adds up, and a level scaled by what its block has in common.
use Rattle.std.specs.Prelude.{◌≡◌, ℕ, ◌+◌, ◌-◌, ◌*◌, ◌<◌, ◌≤◌, ℤ, pos, negsuc, neg_ℤ, ◌*ℤ◌, ◌≤ℤ◌, List, length}
use Rattle.std.specs.List.{All}
use Rattle.spec_arithmetic.specs.Rounding.{rounded}
use Rattle.spec_transforms.specs.Matrices.{matrix_in}
use Rattle.spec_transforms.specs.Scaling.{clip16}

abbrev pub IsEntry : ℤ → Type 0
IsEntry v = (negsuc 89 ≤ℤ v) × (v ≤ℤ pos 90)

-- a sum of 31 products, and one of 32
abbrev pub IsPartialSum : ℤ → Type 0
IsPartialSum v = (negsuc 91422719 ≤ℤ v) × (v ≤ℤ pos 91422720)

abbrev pub IsSum : ℤ → Type 0
IsSum v = (negsuc 94371839 ≤ℤ v) × (v ≤ℤ pos 94371840)

-- a sum of 16 products: of every other row of the largest matrix
abbrev pub IsHalfSum : ℤ → Type 0
IsHalfSum v = (negsuc 47185919 ≤ℤ v) × (v ≤ℤ pos 47185920)

-- a square matrix whose rows stand so far apart in a list; of more than 4 columns, the even rows are the same from both
-- ends, and the odd ones opposite
pub record IsMatrix (entries : List ℤ) (stride size : ℕ) : Type 0 where
  pub some : 0 < size
  pub few : size ≤ 32
  pub inside : (k : ℕ) → k < size → stride * k + size ≤ length entries
  pub small : All IsEntry entries
  pub even : 4 < size → (k j : ℕ) → 2 * k < size → j < size
      → matrix_in entries stride (2 * k) (size - 1 - j) ≡ matrix_in entries stride (2 * k) j
  pub odd : 4 < size → (k j : ℕ) → 2 * k + 1 < size → j < size
      → matrix_in entries stride (2 * k + 1) (size - 1 - j) ≡ neg_ℤ (matrix_in entries stride (2 * k + 1) j)

-- a level under a scaling factor and a quantizer, rounded and held to 16 bits
abbrev pub scaled_by : ℕ → ℕ → ℕ → ℤ → ℤ
scaled_by quantizer shift factor level = clip16 (rounded shift (level *ℤ pos (factor * quantizer)))
