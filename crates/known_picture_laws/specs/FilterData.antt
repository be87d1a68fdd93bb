-- Motion, and what is coded, that agree where what a coding tree unit adds for the loop filters depends on them.
use Rattle.std.specs.Prelude.{◌≡◌, ℕ, ◌+◌, ◌==◌, ◌&&◌, ◌||◌, nat_le, nat_lt, Bool, true}
use Rattle.known_unit_laws.specs.SpecSliceData.{PictureShape}
use Rattle.known_unit_laws.specs.SpecPictureTrees.{first_column, first_row, has_place, is_of_unit, unit_places}
use Rattle.locality_laws.specs.SpecPictureMotion.{Motions}

-- whether a column and a line are directly beside a square of so many columns and lines from a first column and line
-- on: in the column on its left, or in the line above
abbrev pub is_directly_beside : ℕ → ℕ → ℕ → ℕ → ℕ → Bool
is_directly_beside side column line x y =
    (x + 1 == column && (nat_le line y && nat_lt y (line + side)))
    || (y + 1 == line && (nat_le column x && nat_lt x (column + side)))

-- whether a place of the picture is directly beside the unit at an address, of whichever slice
abbrev pub is_place_beside : PictureShape → ℕ → ℕ → ℕ → Bool
is_place_beside picture address x y =
    has_place picture x y
    && is_directly_beside (unit_places picture) (first_column picture address) (first_row picture address) x y

-- two pictures' motion agrees at the places of the unit at an address and directly beside it, and so does whether these
-- beside it are coded: edges are filtered between units of different slices too (8.7.2.1)
pub record FilterDataAgree (picture : PictureShape) (address : ℕ) (f g : Motions) (c d : ℕ → ℕ → Bool) : Type 0 where
  pub own : (x y : ℕ) → is_of_unit picture address x y ≡ true → f x y ≡ g x y
  pub beside : (x y : ℕ) → is_place_beside picture address x y ≡ true → f x y ≡ g x y
  pub coded : (x y : ℕ) → is_place_beside picture address x y ≡ true → c x y ≡ d x y
