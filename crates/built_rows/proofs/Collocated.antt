-- The unit's row of the collocated picture of its slice, where it is seen.
use Rattle.std.proofs.Common.{◌≡◌, ℕ, ◌<◌, ◌≤◌, true, Some, ap, sym, subst, ◌∙◌, arith}
use Rattle.hv_base.specs.declared.line.Line.{Line}
use Rattle.hv_base.specs.declared.line.Phase.TheVariants.{B}
use Rattle.plan_types.specs.declared.segment_plan.SegmentPlan.{SegmentPlan}
use Rattle.flight_plan.specs.Flight.{FlightRows, IsNoneOrEarlier}
use Rattle.flight_plan.specs.declared.row_range.Reference.TheVariants.{Flight}
use Rattle.board_core.specs.Needs.{collocated_of, row_needs}
use Rattle.board_core.specs.Places.{line_of}
use Rattle.sample_words.specs.Sizes.{columns}
use Rattle.sample_words.specs.Words.{IsLine, line_number}
use Rattle.spec_slice_data.specs.Segment.{PictureShape, row_of}
use Rattle.progress_words.specs.declared.view.View.{View}
use Rattle.progress_words.specs.Views.{seen_of}
use Rattle.line_words.specs.Places.{IsUnit, UnitAt}
use Rattle.spec_flights.specs.References.{collocated_by, names_before, segment_of}
use Rattle.spec_flights.specs.Rows.{flight_rows, is_sound}
use Rattle.picture_layout.specs.declared.coding_tree_unit.CodingTreeUnit.{CodingTreeUnit}
use Rattle.border_words.specs.FlightFacts.{FlightFacts}
use Rattle.border_words.specs.FlightFacts.{flight_in}
use Rattle.done_units.specs.FlightWaits.{AreAllKnown, AreSeen}
use Rattle.row_waits.specs.declared.picture_view.PictureView.{PictureView}
use Rattle.row_waits.specs.Pictures.{IsPictureOf, IsUnitOf, address_in}
use Rattle.row_waits.proofs.CollocatedRows.{collocated_earlier, collocated_is, row_counted, row_sound}
use Rattle.built_rows.specs.Stages.{shape_of}
use Rattle.built_rows.proofs.Inside.{column_inside, line_inside, line_is, row_inside}
use Rattle.built_rows.proofs.Placed.{row_is}

module _ (facts : FlightFacts) (picture : PictureView) (is : IsPictureOf facts picture) (at : UnitAt)
    (unit : IsUnitOf picture at) (there : IsUnit at) (s : SegmentPlan)
    (segment : segment_of picture.plan.now (address_in picture.plan.now at) ≡ Some s) where
  abbrev plan : FlightRows
  plan = flight_rows (flight_in facts)

  names_are : collocated_by picture.names.now picture.plan.now s
      ≡ collocated_by (names_before (flight_in facts) picture.place) picture.plan.now s
  names_are = ap (λ names. collocated_by names picture.plan.now s) is.names

  -- it is before the unit's own
  pub before_own : IsNoneOrEarlier picture.place (collocated_by picture.names.now picture.plan.now s)
  before_own =
      subst (IsNoneOrEarlier picture.place) (sym names_are)
      (collocated_earlier (flight_in facts) picture.place at.line.row at.unit picture.plan.now is.plan
      (row_inside facts picture is at unit there) (column_inside facts picture is at unit there) s segment
      is.flight.planned)

  -- it is that which the flight tells of the unit
  told : collocated_by picture.names.now picture.plan.now s
      ≡ collocated_of (flight_rows (flight_in facts)) at.line at.unit
  told =
      names_are
      ∙ (sym (collocated_is (flight_in facts) picture.place at.line.row at.unit picture.plan.now is.plan
      (row_inside facts picture is at unit there) (column_inside facts picture is at unit there) s segment)
      ∙ ap (λ (l : Line). collocated_of plan l at.unit) (sym (line_is facts picture is at unit there)))

  module _ (v : View FlightFacts)
      (seen : AreSeen facts picture.layout.now v
      (row_needs (flight_rows (flight_in facts)) (collocated_by picture.names.now picture.plan.now s) at.line.row))
    where
      pub told_seen : AreSeen facts picture.layout.now v
          (row_needs (flight_rows (flight_in facts)) (collocated_of (flight_rows (flight_in facts)) at.line at.unit)
          at.line.row)
      told_seen = subst (λ o. AreSeen facts picture.layout.now v (row_needs plan o at.line.row)) told seen

      module _ (j : ℕ) (named : collocated_by picture.names.now picture.plan.now s ≡ Some (Flight j)) where
        line_there : IsLine picture.layout.now (line_of B j at.line.row)
        line_there =
            let less : j < picture.place = subst (IsNoneOrEarlier picture.place) named before_own in
            let line = line_inside facts picture is at unit there in
            let most = line.picture in
            let place = unit.place in
            record { picture = omega (arith, less, most, place); row = line.row }

        row_seen : AreSeen facts picture.layout.now v (row_needs (flight_rows (flight_in facts)) (Some (Flight j))
            at.line.row)
        row_seen = subst (λ o. AreSeen facts picture.layout.now v (row_needs plan o at.line.row)) named seen

        -- at a unit of the picture, by its place
        module _ (here : CodingTreeUnit) (layout : here.layout ≡ shape_of picture)
            (address : here.address ≡ address_in picture.plan.now at) where
          row_here : row_of here.layout here.address ≡ at.line.row
          row_here =
              ap (λ (q : PictureShape). row_of q here.address) layout
              ∙ (ap (row_of (shape_of picture)) address ∙ row_is facts picture is at unit there)

          pub units_counted : columns picture.layout.now
              ≤ seen_of v (line_number picture.layout.now (line_of B j (row_of here.layout here.address)))
          units_counted =
              subst
              (λ r. columns picture.layout.now ≤ seen_of v (line_number picture.layout.now (line_of B j r)))
              (sym row_here)
              (row_counted facts picture.layout.now is.flight v j at.line.row line_there row_seen)

          pub units_sound : AreAllKnown facts v → (x : ℕ) → x < columns picture.layout.now
              → is_sound (flight_in facts) (line_of B j (row_of here.layout here.address)) x ≡ true
          units_sound known x inside =
              subst (λ r. is_sound (flight_in facts) (line_of B j r) x ≡ true) (sym row_here)
              (row_sound facts picture.layout.now is.flight v j at.line.row line_there row_seen known x inside)
