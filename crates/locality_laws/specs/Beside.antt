-- Samples that agree where a coding tree unit may read them.
use Rattle.std.specs.Prelude.{◌≡◌, ℕ, ◌+◌, ◌*◌, ◌==◌, ◌&&◌, ◌||◌, nat_le, nat_lt, Bool, true}
use Rattle.picture_layout.specs.SpecSliceData.{PictureShape}
use Rattle.spec_picture_build.specs.Border.{Samples, is_available, unit_column, unit_line, unit_side}

-- whether a column and a line are at the border of a square of so many columns and lines from a first column and line
-- on: in the line above it, from the column before it to the end of as many columns again behind it, or in the column
-- on its left
abbrev pub is_at_border : ℕ → ℕ → ℕ → ℕ → ℕ → Bool
is_at_border side column line x y =
    (y + 1 == line && (nat_le column (x + 1) && nat_lt x (column + 2 * side)))
    || (x + 1 == column && (nat_le line y && nat_lt y (line + side)))

-- a unit is on the left of the one at an address, above it on the left, right above it, or above it on the right, where
-- a row has so many
pub data IsOneOfFour (width address unit : ℕ) : Type 0 where
  OnLeft : unit + 1 ≡ address → IsOneOfFour width address unit
  AboveOnLeft : unit + width + 1 ≡ address → IsOneOfFour width address unit
  Above : unit + width ≡ address → IsOneOfFour width address unit
  AboveOnRight : unit + width ≡ address + 1 → IsOneOfFour width address unit

-- samples agree at each place of the border of the unit at an address that is available for it, its slice beginning at
-- another
abbrev pub SamplesAgreeBeside : PictureShape → ℕ → ℕ → Samples → Samples → Type 0
SamplesAgreeBeside picture slice address f g =
    (c x y : ℕ)
    → is_at_border (unit_side picture c) (unit_column picture c address) (unit_line picture c address) x y ≡ true
    → is_available picture slice address c x y ≡ true → f c x y ≡ g c x y
