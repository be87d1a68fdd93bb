-- The motion of a unit, over motion that agrees beside it and beneath it.
use Rattle.std.proofs.Common.{◌≡◌, ◌≢◌, ℕ, zero, suc, ◌+◌, ◌-◌, ◌*◌, ◌<◌, ◌≤◌, ◌==◌, ◌&&◌, ◌||◌, nat_le, nat_lt, Bool}
use Rattle.std.proofs.Common.{true, false, Option, Some, None, refl, ap, ◌∙◌, if◌then◌else◌, arith}
use Rattle.std.proofs.lemmas.Bool.{and_parts, leb-true, ltb-true}
use Rattle.std.proofs.lemmas.Bool.Decides.{nat_tests}
use Rattle.std.proofs.lemmas.Nat.{pow_pos}
use Rattle.block_geometry.specs.CodingTreeBlocks.{is_from}
use Rattle.header_types.specs.declared.reference_pictures.RefEntry.{RefEntry}
use Rattle.picture_layout.specs.PlanTypes.{PicturePlan}
use Rattle.picture_layout.specs.PlanTypes.{SegmentPlan}
use Rattle.picture_layout.specs.PlanTypes.{address_of}
use Rattle.picture_layout.specs.SpecSliceData.{PictureShape}
use Rattle.spec_motion.specs.declared.slice_motion.SliceMotion.{SliceMotion}
use Rattle.spec_motion.specs.Units.{unit_derived}
use Rattle.spec_motion.specs.Vectors.{Beneath, Known}
use Rattle.picture_layout.specs.SpecPictureTrees.{TreeUnit}
use Rattle.picture_layout.specs.SpecPictureTrees.{first_column, first_row, has_place, is_available, is_of_unit}
use Rattle.picture_layout.specs.SpecPictureTrees.{unit_at}
use Rattle.picture_layout.specs.SpecPictureTrees.{unit_places}
use Rattle.picture_layout.specs.SpecPictureTrees.{picture_shape, slice_start}
use Rattle.spec_picture_motion.specs.Derived.{References, collocated_motions, known_of_unit}
use Rattle.spec_picture_motion.specs.Field.{Motions, beneath_unit, collocated_of, is_border, known_beside}
use Rattle.spec_picture_motion.specs.Field.{motion_beside}
use Rattle.spec_picture_motion.specs.Field.{motion_of, unit_laid}
use Rattle.spec_picture_motion.specs.Slices.{collocated_entry, slice_motion}
use Rattle.locality_laws.specs.Beside.{is_at_border}
use Rattle.locality_laws.specs.Motion.{MotionAgreesBeneath, MotionAgreesBeside}
use Rattle.locality_laws.proofs.Border.{column_at, line_at}
use Rattle.locality_laws.proofs.Places.{unit_is_at}

pub some_places : (picture : PictureShape) → 1 ≤ unit_places picture
some_places picture = let some = pow_pos picture.size in omega (arith, some)

-- the unit of a place that is available is decoded before
pub motion_earlier : (picture : PictureShape) (slice address x y : ℕ) → is_available picture slice address x y ≡ true
    → unit_at picture (unit_places picture) x y < address
unfolding is_available
motion_earlier picture slice address x y there =
    ltb-true _ _
    (and_parts (is_from slice (unit_at picture (unit_places picture) x y)) _
    (and_parts (has_place picture x y) _ there).1).1

-- a border place, counted from 1, in the row above or in the column on the left
at_border_if : (n X Y column row : ℕ) → 1 ≤ n → 1 ≤ X + column → 1 ≤ Y + row → is_border n column row ≡ true
    → is_at_border n X Y (X + column - 1) (Y + row - 1) ≡ true
at_border_if n X Y column zero some right low t =
    line_at n X Y column some right (omega (arith, low)) (few n column t)
  where
    few : (n column : ℕ) → is_border n column 0 ≡ true → column ≤ 2 * n
    few n zero t = omega arith
    few n (suc k) t = grind (arith, nat_tests)
at_border_if n X Y zero (suc row) some right low t = column_at n X Y row (omega (arith, right)) (few n row t)
  where
    few : (n row : ℕ) → is_border n 0 (suc row) ≡ true → row < n
    few n row t = grind (arith, nat_tests)
at_border_if n X Y (suc column) (suc row) some right low t = absurd (none n column row t)
  where
    none : (n column row : ℕ) → is_border n (suc column) (suc row) ≡ true → ⊥
    none n column row t = grind (arith, nat_tests)

same_if : {A : Type 0} (b : Bool) (x y : Option A) → (b ≡ true → x ≡ y)
    → (if b then x else None) ≡ (if b then y else None)
same_if true x y e = e refl
same_if false x y e = refl

module _ (picture : PictureShape) (slice address : ℕ) (f g : Motions)
    (agree : MotionAgreesBeside picture slice address f g) where
  motion_agrees : (column row : ℕ) → is_border (unit_places picture) column row ≡ true
      → motion_beside picture slice address f column row ≡ motion_beside picture slice address g column row
  unfolding motion_beside
  motion_agrees column row t =
      let x = first_column picture address + column - 1 in
      let y = first_row picture address + row - 1 in
      same_if _ _ _ (λ e.
      let inside = and_parts _ (nat_le 1 (first_row picture address + row)) (and_parts _ _ e).0 in
      ap motion_of (agree x y
      (at_border_if (unit_places picture) (first_column picture address) (first_row picture address) column row
      (some_places picture) (leb-true _ _ inside.0) (leb-true _ _ inside.1) t) (and_parts _ _ e).1))

  pub known_motion_agrees : known_beside picture slice address f ≡ known_beside picture slice address g
  unfolding known_beside
  known_motion_agrees i column row =
      same_if (is_border (unit_places picture) column row) _ _ (λ e. motion_agrees column row e) i

module _ (picture : PictureShape) (address : ℕ) (f g : Motions) (agree : MotionAgreesBeneath picture address f g) where
  pub beneath_agrees : beneath_unit picture address f ≡ beneath_unit picture address g
  unfolding beneath_unit
  beneath_agrees i column row =
      same_if (nat_le (4 * column) (unit_places picture) && nat_lt (4 * row) (unit_places picture)) _ _ (λ e.
      let tests = and_parts (nat_le (4 * column) (unit_places picture)) _ e in
      ap collocated_of (agree column row (leb-true _ _ tests.0) (ltb-true _ _ tests.1))) i

-- what is known of the motion of a unit
module _ (pictures others : References) (p : PicturePlan) (s : SegmentPlan) (unit : TreeUnit) (f g : Motions) where
  abbrev shape : PictureShape
  shape = picture_shape p.sps p.pps

  abbrev entry : Option RefEntry
  entry = collocated_entry s.header.slice (slice_start p s).lists

  pub known_of_unit_agrees : MotionAgreesBeside shape (address_of (slice_start p s)) unit.ctu f g
      → MotionAgreesBeneath shape unit.ctu (collocated_motions pictures entry) (collocated_motions others entry)
      → known_of_unit pictures p s unit f ≡ known_of_unit others p s unit g
  unfolding known_of_unit
  known_of_unit_agrees beside beneath =
      ap (λ (b : Beneath). unit_derived (slice_motion p s unit.ctu) b unit.read.items
      (known_beside shape (address_of (slice_start p s)) unit.ctu f))
      (beneath_agrees shape unit.ctu (collocated_motions pictures entry) (collocated_motions others entry) beneath)
      ∙ ap (λ (k : Known). unit_derived (slice_motion p s unit.ctu)
      (beneath_unit shape unit.ctu (collocated_motions others entry)) unit.read.items k)
      (known_motion_agrees shape (address_of (slice_start p s)) unit.ctu f g beside)

unless : {A : Type 0} (b : Bool) (x y : A) → (b ≡ true → ⊥) → (if b then x else y) ≡ y
unless true x y never = absurd (never refl)
unless false x y never = refl

-- the unit of a place
pub place_is : (picture : PictureShape) (address x y : ℕ) → is_of_unit picture address x y ≡ true
    → unit_at picture (unit_places picture) x y ≡ address
unfolding unit_at
place_is picture address x y e =
    let tests = and_parts (has_place picture x y) _ e in
    let across = and_parts
    (nat_le (first_column picture address) x && nat_lt x (first_column picture address + unit_places picture)) _
    tests.1 in
    let columns = and_parts (nat_le (first_column picture address) x) _ across.0 in
    let rows = and_parts (nat_le (first_row picture address) y) _ across.1 in
    unit_is_at (unit_places picture) picture.width address x y (leb-true _ _ columns.0) (ltb-true _ _ columns.1)
    (leb-true _ _ rows.0) (ltb-true _ _ rows.1)

pub motion_stays : (picture : PictureShape) (address : ℕ) (slice : SliceMotion) (known : Known) (f : Motions) (x y : ℕ)
    → unit_at picture (unit_places picture) x y ≢ address → unit_laid picture address slice known f x y ≡ f x y
unfolding unit_laid
motion_stays picture address slice known f x y other =
    unless (is_of_unit picture address x y) _ _ (λ e. other (place_is picture address x y e))
