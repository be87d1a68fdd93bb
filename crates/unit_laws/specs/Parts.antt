-- Availability between the prediction units of a coding unit (6.4.2).
use Rattle.std.specs.Prelude.{◌≡◌, ℕ, zero, suc, ◌+◌, ◌-◌, ◌*◌, ◌==◌, Bool, true, false, not, ◌&&◌, ◌||◌}
use Rattle.std.specs.Prelude.{nat_le, nat_lt, List, [], ◌∷◌, All}
use Rattle.ctu_records.specs.declared.prediction.PartMode.{PartMode}
use Rattle.ctu_records.specs.declared.prediction.PartMode.TheVariants.{TwoNxnU, TwoNxnD}
use Rattle.ctu_records.specs.declared.prediction.PartMode.TheVariants.{NLx2N, NRx2N}
use Rattle.ctu_records.specs.declared.prediction.Rectangle.{Rectangle}
use Rattle.ctu_records.specs.Prediction.{is_inside, part_of, rectangle}

-- columns and rows of places are counted from 1 at a coding unit's first place: column 0 and row 0 stand beside it
abbrev pub Beside : Type 0
Beside = ℕ × ℕ

-- the block of a part in a coding unit of so many places on a side
abbrev pub block_of : ℕ → PartMode → ℕ → Rectangle
block_of side mode part = part_of 1 1 side mode part

-- where the spatial candidates of a block stand: A0, A1, B0, B1 and B2 (8.5.3.2.3, 8.5.3.2.7)
abbrev pub candidate_places : Rectangle → List Beside
candidate_places block =
    (block.x - 1, block.y + block.height)
    ∷ (block.x - 1, block.y + block.height - 1)
    ∷ (block.x + block.width, block.y - 1)
    ∷ (block.x + block.width - 1, block.y - 1)
    ∷ (block.x - 1, block.y - 1)
    ∷ []

-- whether a place is in the coding unit: sameCb
abbrev pub is_same_unit : ℕ → Beside → Bool
is_same_unit side place = is_inside (rectangle 1 1 side side) place.0 place.1

-- whether it is in one of the first parts, whose motion was laid before
abbrev pub is_in_parts : ℕ → PartMode → ℕ → Beside → Bool
is_in_parts side mode zero place = false
is_in_parts side mode (suc n) place = is_inside (block_of side mode n) place.0 place.1 || is_in_parts side mode n place

-- availableN of a place in the same coding unit: all are but, for the second of four parts, those of the third
abbrev pub is_part_available : ℕ → PartMode → ℕ → Beside → Bool
is_part_available side mode part place =
    not (((2 * (block_of side mode part).width == side) && (2 * (block_of side mode part).height == side))
    && ((part == 1)
    && (nat_le (1 + (block_of side mode part).height) place.1 && nat_lt place.0 (1 + (block_of side mode part).width))))

-- the least binary logarithm of the side of a coding unit of a mode, in places
abbrev pub least_side : PartMode → ℕ
least_side TwoNxnU = 2
least_side TwoNxnD = 2
least_side NLx2N = 2
least_side NRx2N = 2
least_side other = 1

-- each candidate of a part that stands in the coding unit was laid before exactly where it is available
abbrev pub AreLaidBefore : ℕ → PartMode → ℕ → Type 0
AreLaidBefore side mode part =
    All
    (λ (place : Beside).
    is_same_unit side place ≡ true → is_in_parts side mode part place ≡ is_part_available side mode part place)
    (candidate_places (block_of side mode part))
