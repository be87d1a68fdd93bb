-- What a writer makes of a payload, so that no start code stands in it (7.3.1.1, 7.4.2).
use Rattle.std.specs.Prelude.{◌≡◌, ℕ, ◌+◌, ◌<◌, Bool, true, false, not, ◌&&◌, List, [], ◌∷◌, nat_le, ◌==◌}
use Rattle.std.specs.Prelude.{if◌then◌else◌}
use Rattle.spec_nal_units.specs.Judged.{removed_of, payload_of}

-- whether a byte of at most 03 would follow two zero bytes
abbrev pub needs_prevention : ℕ → ℕ → ℕ → Bool
needs_prevention before last b = (before == 0) && (last == 0) && nat_le b 3

-- what is written of bytes, behind two bytes that are written: emulation_prevention_three_byte, 03, before each byte
-- that needs it, and behind a last byte of 00
abbrev pub escaped : ℕ → ℕ → List ℕ → List ℕ
escaped before last [] = if last == 0 then 3 ∷ [] else []
escaped before last (b ∷ bs) =
    if needs_prevention before last b then 3 ∷ b ∷ escaped 3 b bs
    else b ∷ escaped last b bs

-- the unit that is written: the two bytes of its header, and its payload behind them
abbrev pub unit_with : ℕ → ℕ → List ℕ → List ℕ
unit_with first second payload = first ∷ second ∷ escaped first second payload

-- at which places, counted from this one, emulation prevention bytes are written
abbrev pub added : ℕ → ℕ → ℕ → List ℕ → List ℕ
added place before last [] = if last == 0 then place ∷ [] else []
added place before last (b ∷ bs) =
    if needs_prevention before last b then place ∷ added (place + 2) 3 b bs
    else added (place + 1) last b bs

-- whether the zero bytes at the end of a payload are cabac_zero_words, of two bytes each; half of one may stand before
abbrev pub ends_in_words : Bool → List ℕ → Bool
ends_in_words half [] = not half
ends_in_words half (b ∷ bs) = ends_in_words ((b == 0) && not half) bs

-- what may be written: nuh_temporal_id_plus1, in the header's second byte, isn't 0, and cabac_zero_words are whole
pub record IsWritable (second : ℕ) (payload : List ℕ) : Type 0 where
  pub header : 0 < second
  pub words : ends_in_words false payload ≡ true

-- what is written reads back as the payload, and what is removed is what was added
pub record IsReadBack (first second : ℕ) (payload : List ℕ) : Type 0 where
  pub same : payload_of (unit_with first second payload) ≡ payload
  pub places : removed_of (unit_with first second payload) ≡ added 2 first second payload
