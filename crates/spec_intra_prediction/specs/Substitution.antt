-- Substitution of neighbouring samples that aren't available (8.4.4.2.2).
use Rattle.std.specs.Prelude.{ℕ, ◌-◌, ◌^◌, List, [], ◌∷◌, Option, Some, None}

-- the first one that is available, from the bottom of the left column on; else the value given
unfoldable pub first_available : ℕ → List (Option ℕ) → ℕ
first_available otherwise [] = otherwise
first_available otherwise (Some sample ∷ neighbours) = sample
first_available otherwise (None ∷ neighbours) = first_available otherwise neighbours

-- a sample, or where it isn't available the one before it
abbrev pub sample_or : Option ℕ → ℕ → ℕ
sample_or (Some sample) former = sample
sample_or None former = former

-- each that isn't available takes the one before it, which for the first of them is given
unfoldable pub following : ℕ → List (Option ℕ) → List ℕ
following former [] = []
following former (next ∷ neighbours) = sample_or next former ∷ following (sample_or next former) neighbours

-- the neighbours with every missing one substituted; where none is available all are half of the range
abbrev pub substituted : ℕ → List (Option ℕ) → List ℕ
substituted depth neighbours = following (first_available (2 ^ (depth - 1)) neighbours) neighbours
