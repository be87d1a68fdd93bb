-- The samples of the pictures of a flight are in the range of their bit depths, in each phase.
use Rattle.std.proofs.Common.{◌≡◌, ℕ, ◌-◌, ◌^◌, ◌<◌, ◌≤◌, List, All, Option, Some, slice_get, arith, sym, subst}
use Rattle.hv_base.specs.declared.line.Phase.{Phase}
use Rattle.plan_types.specs.declared.picture_plan.PicturePlan.{PicturePlan}
use Rattle.plan_types.specs.declared.segment_plan.SegmentPlan.{SegmentPlan}
use Rattle.flight_waits.specs.PlanLaws.{IsPlan}
use Rattle.spec_picture_trees.specs.Picture.{TreeUnit}
use Rattle.spec_known_units.specs.Known.{known_units}
use Rattle.spec_reconstruction.specs.Sound.{ArePulses}
use Rattle.spec_loop_filters.specs.declared.format.FilterFormat.{FilterFormat}
use Rattle.spec_loop_filters.specs.Filters.{AreInRange, depth_of}
use Rattle.spec_picture_filters.specs.Filtered.{filter_format}
use Rattle.flight_waits.specs.SpecPictureBuild.{unit_format}
use Rattle.flight_waits.specs.SpecPictureBuild.{DecodedPicture}
use Rattle.flight_waits.specs.SpecDecodedPictures.{DecodedUnits}
use Rattle.flight_waits.proofs.SpecDecodedPicturesLemmas.{one_fold}
use Rattle.flight_waits.proofs.UnitLawsLemmas.{format-fits}
use Rattle.flight_waits.proofs.SampleLawsLemmas.{built_below}
use Rattle.flight_waits.specs.SpecFlights.{PlannedFlight, folded_at, known_folded, pictures_before}
use Rattle.flight_waits.specs.FlightValueLaws.{IsInRange}
use Rattle.flight_waits.proofs.FlightValueLawsLemmas.{in_depth, phase_small}
use Rattle.flight_waits.proofs.FlightValueLawsLemmas.{all_given}
use Rattle.flight_waits.proofs.FlightValueLawsLemmas.{fit_at, folded_is}
use Rattle.sample_lines.specs.FactsOfFlights.{samples_at, samples_of}
use Rattle.filtered_rows.specs.Components.{IsFormatAt}

module _ (p : PicturePlan) (plan : IsPlan p) where
  -- samples of pulse code modulation have their bits
  filled : All (λ (unit : TreeUnit). (s : SegmentPlan) → ArePulses (unit_format p.sps p.pps s.header.slice)
      unit.read.items) (known_units p)
  filled =
      all_given p (λ (unit : TreeUnit). (s : SegmentPlan) → ArePulses (unit_format p.sps p.pps s.header.slice)
      unit.read.items) (λ a u e s. ((fit_at p plan a u e).kept s).pulses)

  built_small : (buffer : List DecodedPicture) → AreInRange (filter_format p) (known_folded buffer p).samples
  built_small buffer =
      subst (λ (d : DecodedUnits). AreInRange (filter_format p) d.samples) (sym (one_fold buffer p (known_units p)))
      (λ c x y. in_depth p c _
      (built_below p (λ s. format-fits p plan.sps s) buffer (known_units p) filled c x y))

module _ (f : PlannedFlight) (range : IsInRange f) (k : ℕ) where
  flight_small : (p : PicturePlan) → slice_get f.pictures k ≡ Some p → (phase : Phase) (c x y : ℕ)
      → samples_at f k phase c x y < 2 ^ depth_of (filter_format p) c
  unfolding samples_at
  flight_small p has phase c x y =
      let small : AreInRange (filter_format p) (folded_at f k).samples =
      subst (λ (d : DecodedUnits). AreInRange (filter_format p) d.samples) (sym (folded_is f range k p has))
      (built_small p (range.plans k p has) (pictures_before f k)) in
      subst
      (λ (o : Option PicturePlan). samples_of o (folded_at f k) phase c x y < 2 ^ depth_of (filter_format p) c)
      (sym has) (phase_small p (folded_at f k) small phase c x y)

  -- by the format and the depth of a component
  pub samples_small : (format : FilterFormat) → IsFormatAt f k format → (phase : Phase) (c depth : ℕ)
      → depth ≡ depth_of format c → (x y : ℕ) → samples_at f k phase c x y ≤ 2 ^ depth - 1
  samples_small format by phase c depth is x y =
      let small = flight_small by.plan by.has phase c x y in
      let here : samples_at f k phase c x y < 2 ^ depth_of format c =
      subst (λ (g : FilterFormat). samples_at f k phase c x y < 2 ^ depth_of g c) (sym by.same) small in
      let less : samples_at f k phase c x y < 2 ^ depth =
      subst (λ (d : ℕ). samples_at f k phase c x y < 2 ^ d) (sym is) here in
      omega (arith, less)
