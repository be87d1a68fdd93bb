-- What bits and units are written as.
use Rattle.std.specs.Prelude.{ℕ, ◌*◌, Bool, List, [], ◌∷◌}
use Rattle.spec_bits.specs.Bits.{number_of}
use Rattle.spec_cabac.specs.Bins.{Bin, BinValue}
use Rattle.spec_formats.specs.Format.{Word}
use Rattle.spec_nal_units.specs.Escaped.{unit_with}
use Rattle.cabac_writer.specs.Pulses.{section_bits}

-- the bytes of bits, eight by eight
unfoldable pub bytes_of : List Bool → List ℕ
bytes_of (a ∷ b ∷ c ∷ d ∷ e ∷ f ∷ g ∷ h ∷ bits) =
    number_of (a ∷ b ∷ c ∷ d ∷ e ∷ f ∷ g ∷ h ∷ []) ∷ bytes_of bits
bytes_of bits = []

abbrev pub Bins : Type 0
Bins = List (Word Bin BinValue)

-- bins and a terminate bin of 1 behind them
abbrev pub section_bytes : Bins → List ℕ → List ℕ
section_bytes bins contexts = bytes_of (section_bits bins contexts)

-- a NAL unit of TemporalId 0 behind a start code of four bytes
abbrev pub unit_behind_code : ℕ → List ℕ → List ℕ
unit_behind_code nal_type payload = 0 ∷ 0 ∷ 0 ∷ 1 ∷ unit_with (2 * nal_type) 1 payload
