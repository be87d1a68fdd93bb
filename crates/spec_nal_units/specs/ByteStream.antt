-- The byte stream format, as its grammar has it (B.2).
use Rattle.std.specs.Prelude.{◌≡◌, ℕ, ◌≤◌, true, List, [], ◌∷◌, ◌++◌, map, replicate}
use Rattle.spec_nal_units.specs.Units.{Raw, parts_of}

-- wherever two zero bytes stand in these bytes, the byte behind them is at least this one
abbrev pub AtLeastBehindZeros : ℕ → List ℕ → Type 0
AtLeastBehindZeros least bytes = (before after : List ℕ) (b : ℕ) → bytes ≡ before ++ 0 ∷ 0 ∷ b ∷ after → least ≤ b

-- the last of these bytes, if there is one, isn't 00
abbrev pub EndsInNoZero : List ℕ → Type 0
EndsInNoZero bytes = (before : List ℕ) → ¬ (bytes ≡ before ++ 0 ∷ [])

-- what stands for a NAL unit in a byte stream: neither 00 00 00 nor 00 00 01 in it, and no 00 at its end (7.4.2). That
-- its header is whole is another rule
pub record IsNalUnit (unit : List ℕ) : Type 0 where
  pub codes : AtLeastBehindZeros 2 unit
  pub ending : EndsInNoZero unit

-- byte_stream_nal_unit: zero bytes (leading_zero_8bits, zero_byte), start_code_prefix_one_3bytes, which is 00 00 01,
-- the NAL unit, zero bytes (trailing_zero_8bits)
abbrev pub byte_stream_nal_unit : ℕ → List ℕ → ℕ → List ℕ
byte_stream_nal_unit leading unit trailing = replicate leading 0 ++ 0 ∷ 0 ∷ 1 ∷ (unit ++ replicate trailing 0)

-- a byte stream of these NAL units: a byte_stream_nal_unit for each, one behind the other. Zero bytes alone are one of
-- no unit, which told_of refuses
abbrev pub IsByteStream : List ℕ → List (List ℕ) → Type 0
IsByteStream bytes [] = (zeros : ℕ) × (bytes ≡ replicate zeros 0)
IsByteStream bytes (unit ∷ units) =
    (leading : ℕ)
    × (trailing : ℕ)
    × (rest : List ℕ)
    × (bytes ≡ byte_stream_nal_unit leading unit trailing ++ rest)
    × IsNalUnit unit
    × IsByteStream rest units

-- these bytes are split into these units, and no stray byte stands among them
abbrev pub IsSplitInto : List ℕ → List (List ℕ) → Type 0
IsSplitInto bytes units = parts_of true bytes ≡ map Raw units
