-- One fold over the units of a picture gives its samples, its motion, and what its loop filters need.
use Rattle.std.proofs.Common.{◌≡◌, refl, sym, ap, ◌∙◌, List, [], ◌∷◌, Option, Some, None}
use Rattle.std.specs.List.{fold, slice_get}
use Rattle.spec_picture_build.specs.PlanTypes.{SegmentPlan}
use Rattle.spec_picture_build.specs.PlanTypes.{PicturePlan}
use Rattle.spec_picture_build.specs.SpecPictureTrees.{TreeUnit}
use Rattle.spec_picture_filters.specs.Data.{FilterData, no_data}
use Rattle.spec_picture_filters.specs.Filtered.{Behind, both_added, units_behind, units_filtered}
use Rattle.spec_picture_filters.specs.Filtered.{added_in as gathered_in, with_unit as with_gathered}
use Rattle.spec_picture_build.specs.Built.{BuiltPicture, no_picture, unit_added, units_built}
use Rattle.spec_picture_build.specs.Built.{added_in as built_in, with_unit as with_built}
use Rattle.spec_picture_build.specs.References.{DecodedPicture, motions_of}
use Rattle.spec_decoded_pictures.specs.Decoded.{DecodedUnits, decoded_in, joined, unit_decoded, units_folded}
use Rattle.spec_decoded_pictures.specs.Decoded.{with_unit}

-- the motion of a picture that is built, and what its loop filters need
abbrev behind : BuiltPicture → FilterData → Behind
behind built gathered = record { motions = built.motions; gathered = gathered }

module _ (buffer : List DecodedPicture) (p : PicturePlan) where
  -- a unit changes the motion of both alike
  same_motion : (s : Option SegmentPlan) (unit : TreeUnit) (b : BuiltPicture) (g : FilterData)
      → gathered_in (motions_of buffer) p s unit (behind b g)
      ≡ behind (built_in buffer p s unit b) (gathered_in (motions_of buffer) p s unit (behind b g)).gathered
  unfolding unit_added both_added
  same_motion None unit b g = refl
  same_motion (Some s) unit b g = refl

  unit_joined : (s : Option SegmentPlan) (unit : TreeUnit) (b : BuiltPicture) (g : FilterData)
      → decoded_in buffer p s unit (joined b g)
      ≡ joined (built_in buffer p s unit b) (gathered_in (motions_of buffer) p s unit (behind b g)).gathered
  unfolding unit_added both_added unit_decoded
  unit_joined None unit b g = refl
  unit_joined (Some s) unit b g = refl

  from_joined : (units : List TreeUnit) (b : BuiltPicture) (g : FilterData)
      → fold (with_unit buffer p) (joined b g) units
      ≡ joined (fold (with_built buffer p) b units)
      (fold (with_gathered (motions_of buffer) p) (behind b g) units).gathered
  from_joined [] b g = refl
  from_joined (u ∷ us) b g =
      let s : Option SegmentPlan = slice_get p.segments u.segment in
      let next : BuiltPicture = built_in buffer p s u b in
      let more : FilterData = (gathered_in (motions_of buffer) p s u (behind b g)).gathered in
      ap (λ (d : DecodedUnits). fold (with_unit buffer p) d us) (unit_joined s u b g)
      ∙ from_joined us next more
      ∙ ap (λ (h : Behind). joined (fold (with_built buffer p) next us)
      (fold (with_gathered (motions_of buffer) p) h us).gathered) (sym (same_motion s u b g))

  pub one_fold : (units : List TreeUnit)
      → units_folded buffer p units ≡ joined (units_built buffer p units) (units_filtered (motions_of buffer) p units)
  unfolding units_folded units_built units_behind
  one_fold units = from_joined units no_picture no_data
