-- The samples that are known while a coding tree unit is built.
use Rattle.std.specs.Prelude.{ℕ, ◌+◌, ◌-◌, ◌==◌, ◌&&◌, Option, Some, None, ℤ, pos, ◌+ℤ◌, if◌then◌else◌}
use Rattle.spec_transforms.specs.SpecArithmetic.{clip1}
use Rattle.ctu_records.specs.Places.{inside}

-- by component, column and line, both counted from 1 at the unit's first sample: line 0 stands above the unit, column 0
-- left of it, and the corner at both. None where a sample isn't available (6.4.1): it is outside the picture or the
-- slice, or isn't built yet
abbrev pub Known : Type 0
Known = ℕ → ℕ → ℕ → Option ℕ

-- a square of a component that is changed sample by sample, each by its column and line in the square; (x, y) is the
-- square's first sample, counted from 0
unfoldable pub changed : ℕ → ℕ → ℕ → ℕ → (ℕ → ℕ → Option ℕ → Option ℕ) → Known → Known
changed c x y n change known component column line =
    if component == c && inside (x + 1) (y + 1) n column line
    then change (column - (x + 1)) (line - (y + 1)) (known component column line)
    else known component column line

-- a square of samples over what was there
abbrev pub laid : ℕ → ℕ → ℕ → ℕ → (ℕ → ℕ → ℕ) → Known → Known
laid c x y n block = changed c x y n (λ i j before. Some (block i j))

-- a sample and a residual: Clip1 of their sum
abbrev pub with_residual : ℕ → ℤ → Option ℕ → Option ℕ
with_residual depth residual None = None
with_residual depth residual (Some sample) = Some (clip1 depth (pos sample +ℤ residual))

-- picture construction of a square: residuals added to its predicted samples (8.6.5)
abbrev pub constructed : ℕ → ℕ → ℕ → ℕ → ℕ → (ℕ → ℕ → ℤ) → Known → Known
constructed depth c x y n residuals = changed c x y n (λ i j before. with_residual depth (residuals i j) before)
