-- The edges of a coding tree unit by what was read of it (8.7.2.2, 8.7.2.3): the left sides and the tops of its blocks,
-- by column and row of places, counted from 0 at the unit's first place. A place is a block of 4x4 luma samples.
use Rattle.std.specs.Prelude.{ℕ, ◌+◌, ◌^◌, ◌==◌, Bool, false, ◌&&◌, nat_le, nat_lt, List, Option, Some, None}
use Rattle.std.specs.List.{list_any}
use Rattle.ctu_records.specs.declared.item.Item.{Item}
use Rattle.ctu_records.specs.declared.item.Item.TheVariants.{Unit, Prediction, Transform}
use Rattle.ctu_records.specs.declared.item.Square.{Square}
use Rattle.ctu_records.specs.declared.prediction.Rectangle.{Rectangle}
use Rattle.ctu_records.specs.Prediction.{part_block, rectangle}

-- whether a place, by its line and how far along it is, is one of so many on a line from the first one on
abbrev pub is_marked : ℕ → ℕ → ℕ → ℕ → ℕ → Bool
is_marked line first count i j = i == line && (nat_le first j && nat_lt j (first + count))

-- whether a place stands at the left side of a block, or at its top
abbrev pub stands_left : Rectangle → ℕ → ℕ → Bool
stands_left block x y = is_marked block.x block.y block.height x y

-- whether a place is at the top side of a block
abbrev pub stands_top : Rectangle → ℕ → ℕ → Bool
stands_top block x y = is_marked block.y block.x block.width y x

-- the places of a square
abbrev pub square_block : Square → Rectangle
square_block square = rectangle square.x square.y (2 ^ square.log2_size) (2 ^ square.log2_size)

-- the block of a coding unit or of a transform unit
abbrev pub transform_block : Item → Option Rectangle
transform_block (Unit unit) = Some (square_block unit.square)
transform_block (Transform unit) = Some (square_block unit.square)
transform_block other = None

-- the block of a prediction unit
abbrev pub prediction_block : Item → Option Rectangle
prediction_block (Prediction unit) = Some (part_block unit.unit unit.part_mode unit.part)
prediction_block other = None

-- whether a place is at the left side of a block, where there is one
abbrev pub at_left : ℕ → ℕ → Option Rectangle → Bool
at_left x y None = false
at_left x y (Some block) = stands_left block x y

-- whether it is at the top side of one
abbrev pub at_top : ℕ → ℕ → Option Rectangle → Bool
at_top x y None = false
at_top x y (Some block) = stands_top block x y

-- whether a place's left side is one of a coding unit or of a transform unit
unfoldable pub is_transform_left : List Item → ℕ → ℕ → Bool
is_transform_left items x y = list_any (λ item. at_left x y (transform_block item)) items

-- whether its top is
unfoldable pub is_transform_top : List Item → ℕ → ℕ → Bool
is_transform_top items x y = list_any (λ item. at_top x y (transform_block item)) items

-- whether a place's left side is one of a prediction block
unfoldable pub is_prediction_left : List Item → ℕ → ℕ → Bool
is_prediction_left items x y = list_any (λ item. at_left x y (prediction_block item)) items

-- whether its top is
unfoldable pub is_prediction_top : List Item → ℕ → ℕ → Bool
is_prediction_top items x y = list_any (λ item. at_top x y (prediction_block item)) items
