-- The slice segment and the items of a coding tree unit that is known.
use Rattle.std.proofs.Common.{◌≡◌, ℕ, ◌<◌, Option, Some, IfSome, length, slice_get, ap, sym, subst, ◌∙◌, arith}
use Rattle.std.proofs.lemmas.Option.{same_Some, slice_get_within}
use Rattle.header_types.specs.SequenceParameterSets.{IsSps, size_in_ctbs}
use Rattle.plan_types.specs.declared.picture_plan.PicturePlan.{PicturePlan}
use Rattle.plan_types.specs.declared.segment_plan.SegmentPlan.{SegmentPlan}
use Rattle.spec_picture_trees.specs.Picture.{SegmentAt}
use Rattle.spec_picture_build.specs.Format.{unit_format}
use Rattle.spec_reconstruction.specs.Sound.{AreSound}
use Rattle.spec_known_units.specs.Known.{KnownUnit, picture_segments, segment_having, units_known}
use Rattle.border_words.proofs.FlightUnitLawsLemmas.{unit_has_segment}
use Rattle.border_words.proofs.FlightValueLawsLemmas.{IsKnownFit, known_fit}
use Rattle.border_words.proofs.FlightValueLawsLemmas.{few_units, rise_few}
use Rattle.row_waits.specs.RowTrees.{OfSegment}
use Rattle.line_words.specs.Places.{IsUnit, UnitAt}
use Rattle.border_words.specs.FlightFacts.{FlightFacts}
use Rattle.row_waits.specs.declared.picture_view.PictureView.{PictureView}
use Rattle.row_waits.specs.Pictures.{IsPictureOf, IsUnitOf, address_in}
use Rattle.built_rows.proofs.Inside.{address_inside, sps_is}

module _ (p : PicturePlan) (sps : IsSps p.sps) (address : ℕ) (known : KnownUnit)
    (is : units_known p address ≡ Some known) where
  pub fits : IsKnownFit p sps known
  fits = subst (λ (o : Option KnownUnit). IfSome o (IsKnownFit p sps)) is (known_fit p sps address)

  -- what was read of it may be built
  pub sound_items : (s : SegmentPlan) → AreSound (unit_format p.sps p.pps s.header.slice) known.read.items
  unfolding unit_format
  sound_items s =
      let kept = fits.kept s in
      record {
        each = kept.each;
        pulses = kept.pulses;
        modes = kept.modes;
        parameters = λ i j. let below = kept.parameters i j in omega (arith, below);
      }

module _ (facts : FlightFacts) (picture : PictureView) (is : IsPictureOf facts picture) (at : UnitAt)
    (unit : IsUnitOf picture at) (there : IsUnit at) where
  abbrev p : PicturePlan
  p = picture.plan.now

  -- a segment has the unit
  pub has_segment : (s : SegmentAt)
      × (segment_having (picture_segments picture.plan.now) (address_in picture.plan.now at) ≡ Some s)
  has_segment =
      let found =
      unit_has_segment picture.plan.now (address_in picture.plan.now at)
      (is.flight.planned.segments picture.place picture.plan.now is.plan)
      (address_inside facts picture is at unit there) in
      (found.0, found.1)

  module _ (known : KnownUnit) (has : units_known picture.plan.now (address_in picture.plan.now at) ≡ Some known) where
    pub few_segments : known.segment < 262144
    few_segments =
        let plan = is.flight.range.plans picture.place picture.plan.now is.plan in
        let rise = rise_few (size_in_ctbs p.sps) p.segments plan.order.rise in
        let units = few_units p.sps plan.sps in
        let fit = fits p (sps_is facts picture is) (address_in p at) known has in
        let inside = slice_get_within p.segments known.segment fit.segment fit.has in
        omega (arith, rise, units, inside)

    pub number_inside : known.segment < length picture.plan.now.segments
    number_inside =
        let fit = fits p (sps_is facts picture is) (address_in p at) known has in
        slice_get_within p.segments known.segment fit.segment fit.has

    -- what is told of the current segment's number is its number
    module _ (of : OfSegment picture.plan.now (address_in picture.plan.now at) (λ s. known.segment ≡ s.number))
        (current : Option SegmentAt)
        (same : current ≡ segment_having (picture_segments picture.plan.now) (address_in picture.plan.now at))
        (n : ℕ) (each : (s : SegmentAt) → current ≡ Some s → n ≡ s.number) where
      pub number_is : n ≡ known.segment
      number_is = each has_segment.0 (same ∙ has_segment.1) ∙ sym (of has_segment.0 has_segment.1)

      pub segment_is : (s t : SegmentPlan) → slice_get picture.plan.now.segments n ≡ Some s
          → slice_get picture.plan.now.segments known.segment ≡ Some t → s ≡ t
      segment_is s t first second =
          same_Some s t (sym first ∙ (ap (λ (k : ℕ). slice_get picture.plan.now.segments k) number_is ∙ second))
