-- The NAL units of a byte stream, and the bytes that stand where none may (B.2).
use Rattle.std.specs.Prelude.{ℕ, suc, ◌+◌, Bool, true, false, ◌&&◌, List, [], ◌∷◌, ◌++◌, Option, Some, None}
use Rattle.std.specs.Prelude.{option_map}
use Rattle.std.specs.Prelude.{take, min, nat_lt, nat_le, ◌==◌, if◌then◌else◌}

-- whether 00 00 00 or 00 00 01 stands here
abbrev pub ends_unit : List ℕ → Bool
ends_unit (a ∷ b ∷ c ∷ bs) = (a == 0) && (b == 0) && nat_lt c 2
ends_unit bs = false

-- how many bytes stand before the first 00 00 00 or 00 00 01
abbrev pub unit_end : List ℕ → Option ℕ
unit_end [] = None
unit_end (b ∷ bs) = if ends_unit (b ∷ bs) then Some 0 else option_map suc (unit_end bs)

-- whether zero bytes alone stand here
abbrev pub all_zero : List ℕ → Bool
all_zero [] = true
all_zero (b ∷ bs) = (b == 0) && all_zero bs

-- the bytes without the zero bytes at their end
abbrev pub trimmed : List ℕ → List ℕ
trimmed [] = []
trimmed (b ∷ bs) = if all_zero (b ∷ bs) then [] else b ∷ trimmed bs

-- what a byte stream is made of, but for start codes and zero bytes between units
pub data Part : Type 0 where
  -- the bytes of a NAL unit
  Raw : List ℕ → Part
  -- a byte other than 00 that stands outside units and is no start code's 01
  Stray : Part

-- the unit that these bytes begin with, where it is whole: it ends at a place, or else, where the input ends here,
-- before the zero bytes at the input's end
abbrev pub unit_to : Bool → List ℕ → Option ℕ → List Part
unit_to ended bs (Some n) = Raw (take n bs) ∷ []
unit_to true bs None = Raw (trimmed bs) ∷ []
unit_to false bs None = []

-- what stands where a unit begins
abbrev pub unit_at : Bool → List ℕ → List Part
unit_at ended bs = unit_to ended bs (unit_end bs)

-- where a byte stands
pub data Place : Type 0 where
  -- outside units, behind so many zero bytes, two of them being enough
  Padding : ℕ → Place
  Inside : Place

-- the parts of bytes that begin at such a place; a unit that began earlier isn't among them. Where more may follow
-- (ended is false), a unit that isn't whole isn't among them
abbrev pub parts : Bool → Place → List ℕ → List Part
parts ended (Padding padded) [] = []
parts ended (Padding padded) (b ∷ bs) =
    if b == 0 then parts ended (Padding (min 2 (padded + 1))) bs
    else (if (b == 1) && nat_le 2 padded then unit_at ended bs ++ parts ended Inside bs
    else Stray ∷ parts ended (Padding 0) bs)
parts ended Inside [] = []
parts ended Inside (b ∷ bs) =
    if ends_unit (b ∷ bs) then parts ended (Padding 1) bs
    else parts ended Inside bs

-- the parts of a byte stream: of the whole input, or of what has come of it
abbrev pub parts_of : Bool → List ℕ → List Part
parts_of ended bytes = parts ended (Padding 0) bytes
