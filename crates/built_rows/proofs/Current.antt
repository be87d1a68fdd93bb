-- The slice segment of a unit that was read is the current one of its reader.
use Rattle.std.proofs.Common.{◌≡◌, ℕ, ◌<◌, Some, length, slice_get, arith, ap, sym, ◌∙◌}
use Rattle.std.proofs.lemmas.Option.{same_Some}
use Rattle.plan_types.specs.declared.segment_plan.SegmentPlan.{SegmentPlan}
use Rattle.spec_picture_trees.specs.Picture.{SegmentAt}
use Rattle.spec_known_units.specs.Known.{KnownUnit, units_known}
use Rattle.flight_plan.specs.Flight.{IsNoneOrEarlier}
use Rattle.spec_flights.specs.References.{collocated_by}
use Rattle.progress_words.specs.declared.view.View.{View}
use Rattle.line_words.specs.Places.{IsUnit, UnitAt}
use Rattle.border_words.specs.FlightFacts.{FlightFacts}
use Rattle.row_waits.specs.declared.picture_view.PictureView.{PictureView}
use Rattle.row_waits.specs.Pictures.{IsPictureOf, IsUnitOf, address_in}
use Rattle.built_rows.specs.declared.row_builder.RowBuilder.{RowBuilder}
use Rattle.built_rows.specs.Stages.{HasRead}
use Rattle.built_rows.proofs.Collocated.{before_own}
use Rattle.built_rows.proofs.Known.{number_inside, number_is}
use Rattle.built_rows.proofs.Placed.{segment_there}

module _ (facts : FlightFacts) (picture : PictureView) (is : IsPictureOf facts picture) (at : UnitAt)
    (unit : IsUnitOf picture at) (there : IsUnit at) (v : View FlightFacts) (b : RowBuilder)
    (read : HasRead facts picture at v b) (n : ℕ)
    (told : (s : SegmentAt) → b.reader.segments.current ≡ Some s → n ≡ s.number) where
  number_known : n ≡ read.read.known.segment
  number_known =
      number_is facts picture is at unit there read.read.known read.read.is read.read.segment b.reader.segments.current
      read.current n told

  pub number_less : n < length picture.plan.now.segments
  number_less =
      let e = number_known in
      let less = number_inside facts picture is at unit there read.read.known read.read.is in
      omega (arith, e, less)

  module _ (s : SegmentPlan) (has : slice_get picture.plan.now.segments n ≡ Some s) where
    known_has : slice_get picture.plan.now.segments read.read.known.segment ≡ Some s
    known_has = ap (slice_get picture.plan.now.segments) (sym number_known) ∙ has

    pub each_has : (known : KnownUnit) → units_known picture.plan.now (address_in picture.plan.now at) ≡ Some known
        → slice_get picture.plan.now.segments known.segment ≡ Some s
    each_has known known_is =
        let same : known ≡ read.read.known = same_Some known read.read.known (sym known_is ∙ read.read.is) in
        ap (λ (u : KnownUnit). slice_get picture.plan.now.segments u.segment) same ∙ known_has

    -- the collocated picture of its slice is before its own
    pub collocated_before : IsNoneOrEarlier picture.place (collocated_by picture.names.now picture.plan.now s)
    collocated_before =
        before_own facts picture is at unit there s
        (segment_there facts picture is at unit there read.read.known read.read.is read.read.segment s known_has)
