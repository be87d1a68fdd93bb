-- Bytes that hold written bits.
use Rattle.std.specs.Prelude.{◌≡◌, ℕ, ◌-◌, ◌*◌, ◌<◌, Bool, false, List, ◌++◌, length, replicate, take}
use Rattle.spec_bits.specs.Bits.{bits}

-- the bits of bytes but the last ones, which are free
abbrev pub written : List ℕ → ℕ → List Bool
written bytes free = take (8 * length bytes - free) (bits bytes)

-- these bits, and then free ones, which are zeros and less than a byte
abbrev pub Holds : List ℕ → ℕ → List Bool → Type 0
Holds bytes free bs = (free < 8) × (bits bytes ≡ bs ++ replicate free false)
