-- Where the samples of coding tree units are in the planes of a picture (6.3.1).
use Rattle.std.specs.Prelude.{◌≡◌, ℕ, ◌+◌, ◌<◌, ◌≤◌, ◌==◌, ◌&&◌, nat_le, nat_lt, Bool}
use Rattle.spec_picture_build.specs.SpecSliceData.{PictureShape}
use Rattle.spec_picture_build.specs.Border.{height_of, unit_column, unit_line, unit_side, width_of}
use Rattle.unit_build.specs.declared.part.Part.{Part}

-- the samples of a component of the unit at an address
pub record IsPart (picture : PictureShape) (address : ℕ) (part : Part) : Type 0 where
  pub component : part.c < 3
  pub side : part.side ≡ unit_side picture part.c
  pub x : part.x ≡ unit_column picture part.c address
  pub y : part.y ≡ unit_line picture part.c address
  pub width : part.width ≡ width_of picture part.c
  pub height : part.height ≡ height_of picture part.c

-- whether a sample of a component of the picture is one of them
abbrev pub is_in_part : Part → ℕ → ℕ → ℕ → Bool
is_in_part part c x y =
    c == part.c
    && ((nat_le part.x x && (nat_lt x (part.x + part.side) && nat_lt x part.width))
    && (nat_le part.y y && (nat_lt y (part.y + part.side) && nat_lt y part.height)))

-- what there is room for in its samples
pub record IsRoom (part : Part) : Type 0 where
  pub component : part.c < 3
  pub some : 1 ≤ part.side
  pub small : part.side ≤ 64
  pub inside : part.x < part.width
  pub columns : part.width ≤ 8192
  pub lines : part.height ≤ 8192
