-- Samples in the range of their bit depth.
use Rattle.std.specs.Prelude.{ℕ, ◌+◌, ◌*◌, ◌^◌, ◌<◌, List, [], ◌∷◌, Option, Some, None, ⊤}
use Rattle.unit_laws.specs.SpecReconstruction.{UnitFormat}
use Rattle.unit_laws.specs.SpecReconstruction.{Known}
use Rattle.unit_laws.specs.SpecReconstruction.{depth_of}

-- a sample of so many bits, where there is one
abbrev pub IsInRange : ℕ → Option ℕ → Type 0
IsInRange depth None = ⊤
IsInRange depth (Some sample) = sample < 2 ^ depth

-- all that are known of a unit and beside it
abbrev pub AreInRange : UnitFormat → Known → Type 0
AreInRange format known = (c column line : ℕ) → IsInRange (depth_of format c) (known c column line)

-- the number that bytes spell, the low one first
abbrev pub number_of : List ℕ → ℕ
number_of [] = 0
number_of (byte ∷ bytes) = byte + 256 * number_of bytes
