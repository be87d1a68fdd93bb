-- The motion of a unit that is derived, and of what stands beside it.
use Rattle.std.proofs.Common.{◌≡◌, ℕ, ◌+◌, ◌-◌, ◌<◌, ◌≤◌, Bool, true, false, None, ap, refl, sym, ◌∙◌, arith}
use Rattle.std.proofs.lemmas.Bool.Decides.{nat_tests}
use Rattle.spec_motion.specs.declared.slice_motion.SliceMotion.{SliceMotion}
use Rattle.spec_motion.specs.Vectors.{Known}
use Rattle.spec_picture_filters.specs.Units.{motion_near}
use Rattle.spec_picture_build.specs.SpecPictureMotion.{Motions, pointing_motion}
use Rattle.spec_picture_build.specs.SpecPictureMotion.{unit_laid}
use Rattle.picture_filters.specs.SpecPictureTrees.{first_column, first_row, is_there, unit_places}
use Rattle.spec_picture_build.specs.SpecSliceData.{PictureShape}
use Rattle.unit_build.specs.Near.{is_inside}

-- that of the unit's own places
pub near_inside : (picture : PictureShape) (address : ℕ) (slice : SliceMotion) (known : Known) (motions : Motions)
    (column row : ℕ)
    → is_there picture address column row ≡ true → is_inside picture column row ≡ true
    → pointing_motion slice (known column row)
    ≡ motion_near picture address (unit_laid picture address slice known motions) column row
unfolding motion_near unit_laid
near_inside picture address slice known motions column row there inside =
    let some : 1 ≤ column = grind (arith, nat_tests) in
    let low : 1 ≤ row = grind (arith, nat_tests) in
    let ex : column ≡ first_column picture address + column - 1 - first_column picture address + 1 =
    omega (arith, some) in
    let ey : row ≡ first_row picture address + row - 1 - first_row picture address + 1 = omega (arith, low) in
    let e = ap (λ x. pointing_motion slice (known x row)) ex
    ∙ ap (λ y. pointing_motion slice
    (known (first_column picture address + column - 1 - first_column picture address + 1) y)) ey in
    grind (arith, nat_tests)

-- that of places beside it
pub near_beside : (picture : PictureShape) (address : ℕ) (slice : SliceMotion) (known : Known) (motions : Motions)
    (column row : ℕ)
    → is_there picture address column row ≡ true → is_inside picture column row ≡ false
    → motions (first_column picture address + column - 1) (first_row picture address + row - 1)
    ≡ motion_near picture address (unit_laid picture address slice known motions) column row
unfolding motion_near unit_laid
near_beside picture address slice known motions column row there outside = grind (arith, nat_tests)

-- where none is known of a place of the unit
still_at : (there : Bool) (picture : PictureShape) (address : ℕ) (slice : SliceMotion) (known : Known)
    (motions : Motions) (column row : ℕ)
    → is_there picture address column row ≡ there → is_inside picture column row ≡ true → known column row ≡ None
    → motion_near picture address (unit_laid picture address slice known motions) column row ≡ None
unfolding motion_near
still_at true picture address slice known motions column row e inside none =
    sym (near_inside picture address slice known motions column row e inside)
    ∙ ap (pointing_motion slice) none
still_at false picture address slice known motions column row e inside none = rw e refl

pub still_near : (picture : PictureShape) (address : ℕ) (slice : SliceMotion) (known : Known) (motions : Motions)
    (x y : ℕ) → x < unit_places picture → y < unit_places picture → known (x + 1) (y + 1) ≡ None
    → motion_near picture address (unit_laid picture address slice known motions) (x + 1) (y + 1) ≡ None
still_near picture address slice known motions x y few low none =
    let inside : is_inside picture (x + 1) (y + 1) ≡ true = grind (arith, nat_tests) in
    still_at (is_there picture address (x + 1) (y + 1)) picture address slice known motions (x + 1) (y + 1) refl inside
    none
