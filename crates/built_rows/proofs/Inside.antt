-- A coding tree unit of a picture of a flight is one of the picture's.
use Rattle.std.proofs.Common.{◌≡◌, ℕ, ◌<◌, ◌≤◌, Some, length, slice_get, refl, ap, sym, subst, ◌∙◌, arith}
use Rattle.hv_base.specs.declared.line.Phase.{Phase}
use Rattle.hv_base.specs.declared.line.Phase.TheVariants.{B}
use Rattle.header_types.specs.SequenceParameterSets.{IsSps, blocks_across, height_in_ctbs, size_in_ctbs}
use Rattle.header_types.specs.SequenceParameterSets.{width_in_ctbs}
use Rattle.plan_types.specs.declared.picture_plan.PicturePlan.{PicturePlan}
use Rattle.picture_layout.specs.Shape.{IsShape}
use Rattle.picture_layout.proofs.Sizes.{shape_is}
use Rattle.spec_picture_trees.specs.Shapes.{picture_shape}
use Rattle.board_core.specs.Places.{line_of}
use Rattle.board_core.proofs.Order.{same_fields}
use Rattle.sample_words.specs.declared.sizes.FlightSizes.{FlightSizes}
use Rattle.sample_words.specs.Sizes.{columns, rows}
use Rattle.sample_words.specs.Words.{IsLine, line_units}
use Rattle.sample_words.proofs.Bounds.{few_columns}
use Rattle.sample_words.proofs.Extents.{some_columns}
use Rattle.spec_flights.specs.Words.{flight_sizes}
use Rattle.border_words.proofs.FlightValueLawsLemmas.{in_picture}
use Rattle.line_words.specs.Places.{IsUnit, UnitAt}
use Rattle.border_words.specs.FlightFacts.{FlightFacts}
use Rattle.border_words.specs.FlightFacts.{flight_in}
use Rattle.border_words.specs.FlightFacts.{IsOfFlight}
use Rattle.border_words.proofs.FlightFactsLemmas.{picture_sizes}
use Rattle.done_units.proofs.FlightWaitsLemmas.{sized}
use Rattle.row_waits.specs.declared.picture_view.PictureView.{PictureView}
use Rattle.row_waits.specs.Pictures.{IsPictureOf, IsUnitOf, address_in}
use Rattle.built_rows.specs.Stages.{shape_of}

module _ (facts : FlightFacts) (picture : PictureView) (is : IsPictureOf facts picture) where
  abbrev p : PicturePlan
  p = picture.plan.now

  pub sps_is : IsSps picture.plan.now.sps
  sps_is = is.flight.planned.sps picture.place picture.plan.now is.plan

  pub sizes_are : picture.layout.now ≡ flight_sizes picture.plan.now.sps (length (flight_in facts).pictures)
  sizes_are = picture_sizes facts picture.layout.now picture.place picture.plan.now is.flight is.plan

  pub columns_are : columns picture.layout.now ≡ width_in_ctbs picture.plan.now.sps
  unfolding blocks_across columns
  columns_are = ap (λ (s : FlightSizes). columns s) sizes_are

  pub some_across : 1 ≤ width_in_ctbs picture.plan.now.sps
  some_across =
      let some = some_columns picture.layout.now (sized facts picture.layout.now is.flight).sizes in
      let e = columns_are in
      omega (arith, some, e)

  few_across : width_in_ctbs picture.plan.now.sps ≤ 512
  few_across =
      let few = few_columns picture.layout.now (sized facts picture.layout.now is.flight).sizes in
      let e = columns_are in
      omega (arith, few, e)

  pub is_shape : IsShape (shape_of picture)
  unfolding picture_shape
  is_shape =
      shape_is picture.plan.now.sps (width_in_ctbs picture.plan.now.sps)
      picture.plan.now.pps.prediction.entropy_coding_sync_enabled_flag sps_is refl some_across few_across

  module _ (at : UnitAt) (unit : IsUnitOf picture at) (there : IsUnit at) where
    pub of_flight : IsOfFlight facts at.sizes
    of_flight = subst (IsOfFlight facts) (sym unit.sizes) is.flight

    pub plan_at : slice_get (flight_in facts).pictures at.line.picture ≡ Some picture.plan.now
    plan_at = ap (λ (k : ℕ). slice_get (flight_in facts).pictures k) unit.place ∙ is.plan

    pub line_is : at.line ≡ line_of B picture.place at.line.row
    line_is = same_fields at.line (line_of B picture.place at.line.row) unit.phase unit.place refl

    pub line_inside : IsLine picture.layout.now at.line
    line_inside = subst (λ (s : FlightSizes). IsLine s at.line) unit.sizes there.line

    pub row_inside : at.line.row < height_in_ctbs picture.plan.now.sps
    unfolding blocks_across rows
    row_inside = subst (λ (s : FlightSizes). at.line.row < rows s) sizes_are line_inside.row

    pub column_inside : at.unit < width_in_ctbs picture.plan.now.sps
    column_inside =
        let here : at.unit < line_units at.sizes B =
        subst (λ (phase : Phase). at.unit < line_units at.sizes phase) unit.phase there.unit in
        let laid : at.unit < columns picture.layout.now =
        subst (λ (s : FlightSizes). at.unit < columns s) unit.sizes here in
        let e = columns_are in
        omega (arith, laid, e)

    pub address_inside : address_in picture.plan.now at < size_in_ctbs picture.plan.now.sps
    address_inside = in_picture picture.plan.now at.line.row at.unit row_inside column_inside
