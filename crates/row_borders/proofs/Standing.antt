-- What stands at the border of a unit in a row is what stands there in a picture.
use Rattle.std.proofs.Common.{◌≡◌, ℕ, ◌+◌, ◌-◌, ◌*◌, ◌/◌, ◌<◌, ◌≤◌, ◌&&◌, nat_le, nat_lt, Bool, true, false}
use Rattle.std.proofs.Common.{None, refl, ap, ◌∙◌, if◌then◌else◌, arith}
use Rattle.std.proofs.lemmas.Bool.{and_parts, ltb-true}
use Rattle.std.proofs.lemmas.Bool.Decides.{nat_tests}
use Rattle.known_picture_laws.specs.SpecDecodedPictures.{DecodedUnits}
use Rattle.spec_picture_build.specs.Border.{has_sample, height_of, unit_column, unit_line, unit_side, width_of}
use Rattle.spec_picture_build.specs.Border as samples
use Rattle.spec_picture_motion.specs.Field.{Motions}
use Rattle.spec_picture_trees.specs.Places.{first_column, first_row, has_place, is_available, unit_places}
use Rattle.spec_slice_data.specs.Segment.{PictureShape}
use Rattle.known_picture_laws.specs.LocalityLaws.{SamplesAgreeBeside, is_at_border}
use Rattle.known_picture_laws.specs.LocalityLaws.{MotionAgreesBeneath, MotionAgreesBeside}
use Rattle.row_borders.specs.Borders.{Bordering, block_beneath, coded_above, coded_at, coded_left, collocated_at}
use Rattle.row_borders.specs.Borders.{column_left, line_above, motion_above, motion_at, motion_left, sample_at}
use Rattle.row_borders.specs.Building.{IsBeneath, IsBeside}
use Rattle.row_borders.proofs.Places.{at_above, at_left, block_at, stands}

module _ (border : Bordering) (units : DecodedUnits) (beside : IsBeside border units) where
  abbrev picture : PictureShape
  picture = border.unit.layout

  abbrev a : ℕ
  a = border.unit.address

  samples_stand : (c x y : ℕ) → c < 3 → x < width_of picture c → y < height_of picture c
      → is_at_border (unit_side picture c) (unit_column picture c a) (unit_line picture c a) x y ≡ true
      → sample_at border c x y ≡ units.samples c x y
  unfolding sample_at
  samples_stand c x y component across down t =
      stands (unit_side picture c) (unit_column picture c a) (unit_line picture c a) (line_above border c)
      (column_left border c) 0 (units.samples c) x y
      (λ e low high. beside.above.line c x component (omega (arith, e)) low high across)
      (λ k ex ey few. beside.left.column c k component (omega (arith, ex)) few (omega (arith, ey, down))) t

  pub samples_beside : (slice : ℕ) → SamplesAgreeBeside picture slice a (sample_at border) units.samples
  unfolding samples.is_available has_sample
  samples_beside slice c x y t there =
      let has = and_parts (has_sample picture c x y) _ there in
      let parts = and_parts (nat_lt c 3) _ has.0 in
      let sides = and_parts (nat_lt x (width_of picture c)) _ parts.1 in
      samples_stand c x y (ltb-true _ _ parts.0) (ltb-true _ _ sides.0) (ltb-true _ _ sides.1) t

  pub motions_stand : (x y : ℕ) → has_place picture x y ≡ true
      → is_at_border (unit_places picture) (first_column picture a) (first_row picture a) x y ≡ true
      → motion_at border x y ≡ units.motions x y
  unfolding motion_at
  motions_stand x y there t =
      let sides = and_parts (nat_lt x picture.across) _ there in
      let across : x < picture.across = ltb-true _ _ sides.0 in
      let down : y < picture.down = ltb-true _ _ sides.1 in
      stands (unit_places picture) (first_column picture a) (first_row picture a) (motion_above border)
      (motion_left border) None units.motions x y
      (λ e low high. beside.above.motion x (omega (arith, e)) low high across)
      (λ k ex ey few. beside.left.motion k (omega (arith, ex)) few (omega (arith, ey, down))) t

  pub motions_beside : (slice : ℕ) → MotionAgreesBeside picture slice a (motion_at border) units.motions
  unfolding is_available
  motions_beside slice x y t there = motions_stand x y (and_parts (has_place picture x y) _ there).0 t

  -- whether places on the left and right above are coded
  pub left_coded : (k : ℕ) → 1 ≤ first_column picture a → k < unit_places picture
      → has_place picture (first_column picture a - 1) (first_row picture a + k) ≡ true
      → coded_at border (first_column picture a - 1) (first_row picture a + k)
      ≡ units.filters.coded (first_column picture a - 1) (first_row picture a + k)
  unfolding coded_at
  left_coded k some few there =
      let sides = and_parts (nat_lt (first_column picture a - 1) picture.across) _ there in
      at_left (first_column picture a) (first_row picture a) (coded_above border) (coded_left border) false
      (first_column picture a - 1) (first_row picture a + k) k (omega (arith, some)) refl
      ∙ beside.left.flags k some few (ltb-true _ _ sides.1)

  pub above_coded : (k : ℕ) → 1 ≤ first_row picture a → k < unit_places picture
      → has_place picture (first_column picture a + k) (first_row picture a - 1) ≡ true
      → coded_at border (first_column picture a + k) (first_row picture a - 1)
      ≡ units.filters.coded (first_column picture a + k) (first_row picture a - 1)
  unfolding coded_at
  above_coded k some few there =
      let sides = and_parts (nat_lt (first_column picture a + k) picture.across) _ there in
      at_above (first_column picture a) (first_row picture a) (coded_above border) (coded_left border) false
      (first_column picture a + k) (first_row picture a - 1) (omega (arith, some))
      ∙ beside.above.flags (first_column picture a + k) some (omega arith) (omega (arith, few))
      (ltb-true _ _ sides.0)

-- the collocated picture's motion beneath the unit
pub beneath_stands : (border : Bordering) (collocated : Motions) → IsBeneath border collocated
    → MotionAgreesBeneath border.unit.layout border.unit.address (collocated_at border) collocated
unfolding collocated_at
beneath_stands border collocated beneath column row few less =
    let X = first_column border.unit.layout border.unit.address in
    let Y = first_row border.unit.layout border.unit.address in
    let inside : (nat_le X (X + 4 * column) && nat_le Y (Y + 4 * row)) ≡ true = grind (arith, nat_tests) in
    ap (λ (b : Bool). if b then block_beneath border ((X + 4 * column - X) / 4) ((Y + 4 * row - Y) / 4) else None)
    inside
    ∙ ap (λ i. block_beneath border i ((Y + 4 * row - Y) / 4)) (block_at X column)
    ∙ ap (λ j. block_beneath border column j) (block_at Y row)
    ∙ beneath column row few less
