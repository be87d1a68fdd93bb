-- Residuals from scaled coefficients: the transformation process, and transform skip (8.6.2, 8.6.4).
use Rattle.std.specs.Prelude.{ℕ, ◌+◌, ◌-◌, ◌*◌, Bool, ℤ, pos, negsuc, ◌*ℤ◌, ◌≤ℤ◌, List}
use Rattle.spec_arithmetic.specs.Rounding.{rounded}
use Rattle.spec_arithmetic.specs.Sums.{int_sum_below}
use Rattle.spec_transforms.specs.Matrices.{Matrix, at, entry}
use Rattle.spec_transforms.specs.Scaling.{clip16}

-- the values of a block by column and row
abbrev pub Block : Type 0
Block = ℕ → ℕ → ℤ

-- a block of so many columns that a list has row after row
abbrev pub block_in : ℕ → List ℤ → Block
block_in size values x y = at values (size * y + x)

-- the first stage: each column of coefficients is transformed, rounded and held to 16 bits
unfoldable pub first_stage : Matrix → ℕ → Block → Block
first_stage matrix size d x y = clip16 (rounded 7 (int_sum_below size (λ k. matrix k y *ℤ d x k)))

-- the second stage: each row of what the first gave is transformed
unfoldable pub second_stage : Matrix → ℕ → Block → Block
second_stage matrix size g x y = int_sum_below size (λ k. matrix k x *ℤ g k y)

-- bdShift of residuals is 20 - BitDepth (8.6.2)
abbrev pub residual_of : ℕ → ℤ → ℤ
residual_of depth r = rounded (20 - depth) r

-- the residuals of a block of scaled coefficients, by the transform of sines or of cosines (8.6.2, 8.6.4)
unfoldable pub transformed : ℕ → Bool → ℕ → Block → Block
transformed depth sines size d x y =
    residual_of depth (second_stage (entry sines size) size (first_stage (entry sines size) size d) x y)

-- the residual of a scaled coefficient where the transform is skipped (8.6.2)
unfoldable pub skipped : ℕ → ℤ → ℤ
skipped depth d = residual_of depth (d *ℤ pos 128)

-- a bound of all residuals
abbrev pub IsResidual : ℤ → Type 0
IsResidual r = (negsuc 2097151 ≤ℤ r) × (r ≤ℤ pos 2097151)
