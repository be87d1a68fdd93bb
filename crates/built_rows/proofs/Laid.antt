-- What is laid above a row of coding tree units, as far as the row has come.
use Rattle.std.proofs.Common.{◌≡◌, ℕ, zero, suc, ◌+◌, ◌-◌, ◌*◌, ◌<◌, ◌≤◌, min, true, refl, subst, sym, ap, arith, ◌∙◌}
use Rattle.hv_base.specs.declared.line.Phase.TheVariants.{B}
use Rattle.header_types.specs.SequenceParameterSets.{height_in_ctbs, width_in_ctbs}
use Rattle.spec_slice_data.specs.Residual.{samples_of_place}
use Rattle.spec_slice_data.specs.Segment.{PictureShape}
use Rattle.spec_picture_trees.specs.Places.{unit_places}
use Rattle.spec_decoded_pictures.specs.Decoded.{DecodedUnits}
use Rattle.border_words.specs.RowBorders.{IsLaid}
use Rattle.border_words.specs.RowBorders.{StripPlaces}
use Rattle.board_core.specs.Needs.{read_needs}
use Rattle.board_core.specs.Places.{line_of}
use Rattle.sample_words.specs.Words.{line_number}
use Rattle.spec_flights.specs.Rows.{flight_rows, is_sound}
use Rattle.progress_words.specs.declared.view.View.{View}
use Rattle.progress_words.specs.Views.{seen_of}
use Rattle.line_words.specs.Places.{IsUnit, UnitAt}
use Rattle.border_words.specs.FlightFacts.{FlightFacts}
use Rattle.border_words.specs.FlightFacts.{flight_in}
use Rattle.done_units.specs.FlightWaits.{AreSeen}
use Rattle.row_waits.specs.declared.picture_view.PictureView.{PictureView}
use Rattle.row_waits.specs.Pictures.{IsPictureOf}
use Rattle.built_rows.specs.declared.row_builder.RowBuilder.{RowBuilder}
use Rattle.built_rows.specs.Stages.{StandsAt, shape_of, units_in}
use Rattle.built_rows.proofs.Inside.{row_inside}
use Rattle.built_rows.proofs.UsesSeen.{row_above_seen, row_above_sound}

-- nothing has to be laid before the first column of a picture
none_before : (n end x : ℕ) → end ≡ 0 → x < n * end → ⊥
none_before n end x none inside =
    let e : n * end ≡ n * 0 = ap (λ m. n * m) none in
    let f : n * 0 ≡ 0 = grind arith in
    omega (arith, inside, e, f)

laid_nowhere : (picture : PictureShape) (row : ℕ) (above : StripPlaces) (units : DecodedUnits) (end : ℕ) → end ≡ 0
    → IsLaid picture row above units end
laid_nowhere picture row above units end none = record {
  line = λ c few x some inside. absurd (none_before (samples_of_place c) end x none inside);
  places = record {
    motion = λ x some inside. absurd (omega (arith, none, inside));
    flags = λ x some inside. absurd (omega (arith, none, inside));
  };
}

module _ (picture : PictureShape) (row : ℕ) (units : DecodedUnits) where
  pub laid_to_first : (above : StripPlaces) (x : ℕ) → x ≡ 0 → IsLaid picture row above units (unit_places picture * x)
  laid_to_first above x first =
      let e : unit_places picture * x ≡ unit_places picture * 0 = ap (λ m. unit_places picture * m) first in
      let f : unit_places picture * 0 ≡ 0 = grind arith in
      laid_nowhere picture row above units (unit_places picture * x) (e ∙ f)

  pub laid_as_far : (above : StripPlaces) (x y : ℕ) → x ≡ y → IsLaid picture row above units (unit_places picture * x)
      → IsLaid picture row above units (unit_places picture * y)
  laid_as_far above x y same laid =
      subst (λ n. IsLaid picture row above units (unit_places picture * n)) same laid

-- one unit more
pub laid_step : (picture : PictureShape) (units : DecodedUnits) (upper row x : ℕ) (old new : StripPlaces)
    → upper + 1 ≡ row
    → (IsLaid picture (upper + 1) old units (unit_places picture * x)
    → IsLaid picture (upper + 1) new units (unit_places picture * (x + 1)))
    → IsLaid picture row old units (unit_places picture * x)
    → IsLaid picture row new units (unit_places picture * (x + 1))
laid_step picture units upper row x old new same step =
    subst
    (λ r. IsLaid picture r old units (unit_places picture * x)
    → IsLaid picture r new units (unit_places picture * (x + 1)))
    same step

some_of : (n : ℕ) → (n ≡ 0 → ⊥) → 0 < n
some_of zero none = absurd (none refl)
some_of (suc n) none = omega arith

-- above a unit of a row below the first one, by the row and the column of the unit
module _ (facts : FlightFacts) (picture : PictureView) (at : UnitAt) (v : View FlightFacts) (b : RowBuilder)
    (stands : StandsAt facts picture at v b) (row x : ℕ) (row_is : row ≡ at.line.row) (x_is : x ≡ at.unit)
    (below : row ≡ 0 → ⊥) where
  abbrev units : DecodedUnits
  units = units_in facts picture

  abbrev side : ℕ
  side = unit_places (shape_of picture)

  upper_is : row - 1 + 1 ≡ at.line.row
  upper_is = let some = some_of row below in omega (arith, some, row_is)

  pub laid_before : (x ≡ 0 → ⊥)
      → IsLaid (shape_of picture) at.line.row b.border.above (units_in facts picture)
      (unit_places (shape_of picture) * (x + 1))
  laid_before right =
      let some = some_of x right in
      laid_as_far (shape_of picture) at.line.row units b.border.above (at.unit + 1) (x + 1) (omega (arith, x_is))
      (stands.laid (omega (arith, some, x_is)))

  pub laid_first : (c : RowBuilder) → x ≡ 0
      → (IsLaid (shape_of picture) (row - 1 + 1) b.border.above (units_in facts picture)
      (unit_places (shape_of picture) * x)
      → IsLaid (shape_of picture) (row - 1 + 1) c.border.above (units_in facts picture)
      (unit_places (shape_of picture) * (x + 1)))
      → IsLaid (shape_of picture) at.line.row c.border.above (units_in facts picture)
      (unit_places (shape_of picture) * (x + 1))
  laid_first c first step =
      laid_step (shape_of picture) units (row - 1) at.line.row x b.border.above c.border.above upper_is step
      (laid_to_first (shape_of picture) at.line.row units b.border.above x first)

  pub laid_next : (c d : RowBuilder) → x + 1 < width_in_ctbs picture.plan.now.sps
      → (IsLaid (shape_of picture) (row - 1 + 1) c.border.above (units_in facts picture)
      (unit_places (shape_of picture) * (x + 1))
      → IsLaid (shape_of picture) (row - 1 + 1) d.border.above (units_in facts picture)
      (unit_places (shape_of picture) * (x + 1 + 1)))
      → IsLaid (shape_of picture) at.line.row c.border.above (units_in facts picture)
      (unit_places (shape_of picture) * (x + 1))
      → IsLaid (shape_of picture) at.line.row d.border.above (units_in facts picture)
      (unit_places (shape_of picture) * min (at.unit + 2) (width_in_ctbs picture.plan.now.sps))
  laid_next c d inside step laid =
      laid_as_far (shape_of picture) at.line.row units d.border.above (x + 1 + 1)
      (min (at.unit + 2) (width_in_ctbs picture.plan.now.sps)) (omega (arith, inside, x_is))
      (laid_step (shape_of picture) units (row - 1) at.line.row (x + 1) c.border.above d.border.above upper_is
      step laid)

  pub laid_last : (c : RowBuilder) → width_in_ctbs picture.plan.now.sps ≤ x + 1
      → at.unit < width_in_ctbs picture.plan.now.sps
      → IsLaid (shape_of picture) at.line.row c.border.above (units_in facts picture)
      (unit_places (shape_of picture) * (x + 1))
      → IsLaid (shape_of picture) at.line.row c.border.above (units_in facts picture)
      (unit_places (shape_of picture) * min (at.unit + 2) (width_in_ctbs picture.plan.now.sps))
  laid_last c past inside laid =
      laid_as_far (shape_of picture) at.line.row units c.border.above (x + 1)
      (min (at.unit + 2) (width_in_ctbs picture.plan.now.sps)) (omega (arith, past, inside, x_is)) laid

  -- units of the row above, by what reading the unit needs
  module _ (is : IsPictureOf facts picture) (there : IsUnit at)
      (needs : AreSeen facts picture.layout.now v (read_needs (flight_rows (flight_in facts)) at.line at.unit)) where
    pub above_inside : row - 1 + 1 < height_in_ctbs picture.plan.now.sps
    above_inside =
        let inside = row_inside facts picture is at stands.working.unit there in
        let e = upper_is in
        omega (arith, inside, e)

    abbrev IsSeenIn : ℕ → ℕ → Type 0
    IsSeenIn k y = y < seen_of v (line_number picture.layout.now (line_of B picture.place k))

    pub above_seen : (y : ℕ) → x ≤ y + 1 → y ≤ x + 1 → y < width_in_ctbs picture.plan.now.sps
        → y < seen_of v (line_number picture.layout.now (line_of B picture.place (row - 1)))
    above_seen y left right inside =
        let some = some_of row below in
        subst (λ k. IsSeenIn (k - 1) y) (sym row_is)
        (row_above_seen facts picture at v is stands.working.unit there stands.working.holds.next stands.working.known
        needs y (omega (arith, some, row_is)) (omega (arith, left, x_is)) (omega (arith, right, x_is)) inside).seen

    pub above_sound : (y : ℕ) → x ≤ y + 1 → y ≤ x + 1 → y < width_in_ctbs picture.plan.now.sps
        → is_sound (flight_in facts) (line_of B picture.place (row - 1)) y ≡ true
    above_sound y left right inside =
        let some = some_of row below in
        subst (λ k. is_sound (flight_in facts) (line_of B picture.place (k - 1)) y ≡ true) (sym row_is)
        (row_above_sound facts picture at v is stands.working.unit there stands.working.holds.next
        stands.working.known needs y (omega (arith, some, row_is)) (omega (arith, left, x_is))
        (omega (arith, right, x_is)) inside)
