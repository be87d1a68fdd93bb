-- Motion that agrees where a coding tree unit may read it.
use Rattle.std.specs.Prelude.{◌≡◌, ℕ, ◌+◌, ◌*◌, ◌<◌, ◌≤◌, true}
use Rattle.picture_layout.specs.SpecSliceData.{PictureShape}
use Rattle.picture_layout.specs.SpecPictureTrees.{first_column, first_row, is_available, unit_places}
use Rattle.spec_picture_motion.specs.Field.{Motions}
use Rattle.locality_laws.specs.Beside.{is_at_border}

-- motion agrees at each place of the border of the unit at an address that is available for it, its slice beginning at
-- another
abbrev pub MotionAgreesBeside : PictureShape → ℕ → ℕ → Motions → Motions → Type 0
MotionAgreesBeside picture slice address f g =
    (x y : ℕ)
    → is_at_border (unit_places picture) (first_column picture address) (first_row picture address) x y ≡ true
    → is_available picture slice address x y ≡ true → f x y ≡ g x y

-- motion of a collocated picture agrees at the first places of the blocks of 16x16 luma samples in the rows of the unit
-- at an address, from its first column to the one behind its last
abbrev pub MotionAgreesBeneath : PictureShape → ℕ → Motions → Motions → Type 0
MotionAgreesBeneath picture address f g =
    (column row : ℕ) → 4 * column ≤ unit_places picture → 4 * row < unit_places picture
    → f (first_column picture address + 4 * column) (first_row picture address + 4 * row)
    ≡ g (first_column picture address + 4 * column) (first_row picture address + 4 * row)
