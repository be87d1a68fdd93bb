-- Where a coding tree unit of a picture of a flight stands in the picture, and what is placed in it.
use Rattle.std.proofs.Common.{◌≡◌, ◌*◌, ◌≤◌, All, Some, ap, sym, ◌∙◌, slice_get}
use Rattle.std.specs.Option.{option_and_then}
use Rattle.std.proofs.lemmas.Nat.{div-mul-add, mod-mul-add}
use Rattle.header_types.specs.SequenceParameterSets.{width_in_ctbs}
use Rattle.plan_types.specs.declared.segment_plan.SegmentPlan.{SegmentPlan}
use Rattle.spec_motion.specs.Units.{IsPlacedItem}
use Rattle.spec_slice_data.specs.Segment.{column_of, row_of}
use Rattle.spec_picture_trees.specs.Picture.{SegmentAt}
use Rattle.spec_picture_trees.specs.Places.{unit_places}
use Rattle.spec_picture_trees.specs.Shapes.{picture_shape}
use Rattle.spec_known_units.specs.Known.{KnownUnit, units_known}
use Rattle.spec_picture_build.specs.Format.{unit_format}
use Rattle.spec_flights.specs.References.{segment_of}
use Rattle.row_waits.specs.RowTrees.{OfSegment}
use Rattle.border_words.proofs.RowBordersLemmas.{all_placed}
use Rattle.line_words.specs.Places.{IsUnit, UnitAt}
use Rattle.border_words.specs.FlightFacts.{FlightFacts}
use Rattle.row_waits.specs.declared.picture_view.PictureView.{PictureView}
use Rattle.row_waits.specs.Pictures.{IsPictureOf, IsUnitOf, address_in}
use Rattle.built_rows.specs.Stages.{shape_of}
use Rattle.built_rows.proofs.Inside.{column_inside, is_shape, sps_is}
use Rattle.built_rows.proofs.Known.{fits, has_segment, sound_items}

-- the units of a row cover it
pub row_covered : (facts : FlightFacts) (picture : PictureView) → IsPictureOf facts picture
    → (shape_of picture).across ≤ unit_places (shape_of picture) * width_in_ctbs picture.plan.now.sps
unfolding picture_shape
row_covered facts picture is = (is_shape facts picture is).covered

module _ (facts : FlightFacts) (picture : PictureView) (is : IsPictureOf facts picture) (at : UnitAt)
    (unit : IsUnitOf picture at) (there : IsUnit at) where
  pub row_is : row_of (shape_of picture) (address_in picture.plan.now at) ≡ at.line.row
  unfolding picture_shape
  row_is =
      div-mul-add at.line.row (width_in_ctbs picture.plan.now.sps) at.unit
      (column_inside facts picture is at unit there)

  pub column_is : column_of (shape_of picture) (address_in picture.plan.now at) ≡ at.unit
  unfolding picture_shape
  column_is =
      mod-mul-add at.line.row (width_in_ctbs picture.plan.now.sps) at.unit
      (column_inside facts picture is at unit there)

  module _ (known : KnownUnit) (has : units_known picture.plan.now (address_in picture.plan.now at) ≡ Some known) where
    -- the segment of a known unit is the one that has it
    pub segment_there : OfSegment picture.plan.now (address_in picture.plan.now at) (λ s. known.segment ≡ s.number)
        → (s : SegmentPlan) → slice_get picture.plan.now.segments known.segment ≡ Some s
        → segment_of picture.plan.now (address_in picture.plan.now at) ≡ Some s
    unfolding segment_of
    segment_there of s named =
        let found = has_segment facts picture is at unit there in
        ap (option_and_then (λ (t : SegmentAt). slice_get picture.plan.now.segments t.number)) found.1
        ∙ (ap (slice_get picture.plan.now.segments) (sym (of found.0 found.1)) ∙ named)

    -- its prediction units lie in it
    pub items_placed : All IsPlacedItem known.read.items
    items_placed =
        let p = picture.plan.now in
        let sps = sps_is facts picture is in
        let s = (fits p sps (address_in p at) known has).segment in
        all_placed (unit_format p.sps p.pps s.header.slice) known.read.items
        (sound_items p sps (address_in p at) known has s)
