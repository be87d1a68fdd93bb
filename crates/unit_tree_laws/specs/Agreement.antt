-- Two readings of a picture that agree on what the next unit depends on.
use Rattle.std.specs.Prelude.{◌≡◌, ◌-◌, ◌^◌, ◌==◌, ◌&&◌, ◌++◌, ◌∷◌, [], not, ℕ, Bool, true, false, Result, Ok, Err}
use Rattle.hv_base.specs.declared.breach.Breach.{Breach}
use Rattle.ctu_records.specs.Tree.{Ctu}
use Rattle.spec_slice_data.specs.Segment.{PictureShape, SegmentShape, Between, begins_row, begins_substream}
use Rattle.spec_slice_data.specs.Segment.{column_of}
use Rattle.spec_slice_data.specs.Segment.{has_above, has_left, has_stored, is_first, unit_of}
use Rattle.unit_trees.specs.Edges.{bottom_of, right_of}

-- whether a unit is the first of a slice
abbrev pub begins_slice : SegmentShape → ℕ → Bool
begins_slice segment address = is_first segment address && not segment.dependent

-- whether the contexts behind a unit are stored: it is the second of a row that has a substream of its own
abbrev pub stores : PictureShape → ℕ → Bool
stores picture address = picture.sync && column_of picture address == 1

-- what the unit at an address depends on: the engine, within a substream; the contexts and Qp'Y behind the former unit,
-- where it begins neither a row of its own nor a slice; the contexts that are stored, where it begins a row with them;
-- and what the units on its left and above it leave, where they are in the slice
pub record Agree (picture : PictureShape) (segment : SegmentShape) (address : ℕ) (a b : Between) : Type 0 where
  pub engine : begins_substream picture segment address ≡ false → a.engine ≡ b.engine
  pub contexts : begins_row picture address ≡ false → begins_slice segment address ≡ false → a.contexts ≡ b.contexts
  pub last : begins_row picture address ≡ false → begins_slice segment address ≡ false → a.last ≡ b.last
  pub stored : begins_row picture address ≡ true → has_stored picture segment address ≡ true → a.stored ≡ b.stored
  pub left : has_left picture segment address ≡ true
      → right_of (2 ^ picture.size) (unit_of picture a (address - 1))
      ≡ right_of (2 ^ picture.size) (unit_of picture b (address - 1))
  pub above : has_above picture segment address ≡ true
      → bottom_of (2 ^ picture.size) (unit_of picture a (address - picture.width))
      ≡ bottom_of (2 ^ picture.size) (unit_of picture b (address - picture.width))

-- behind two readings one unit was added to each, and the engines, the contexts and Qp'Y are the same
pub record AddsSame (a b after_a after_b : Between) : Type 0 where
  pub ctu : Ctu
  pub units_a : after_a.units ≡ a.units ++ ctu ∷ []
  pub units_b : after_b.units ≡ b.units ++ ctu ∷ []
  pub engine : after_a.engine ≡ after_b.engine
  pub contexts : after_a.contexts ≡ after_b.contexts
  pub last : after_a.last ≡ after_b.last

-- two steps add the same unit, or find the same rule broken
abbrev pub IsSameStep : Between → Between → Result Between Breach → Result Between Breach → Type 0
IsSameStep a b (Ok x) (Ok y) = AddsSame a b x y
IsSameStep a b (Err e) (Err f) = e ≡ f
IsSameStep a b (Ok x) (Err f) = ⊥
IsSameStep a b (Err e) (Ok y) = ⊥
