-- What a known unit is decoded from, where that agrees with the picture, and that what it is decoded to does.
use Rattle.std.specs.Prelude.{◌≡◌, ℕ, true, List, All}
use Rattle.header_types.specs.SequenceParameterSets.{ctb_log2}
use Rattle.known_unit_laws.specs.PlanTypes.{SegmentPlan}
use Rattle.known_unit_laws.specs.PlanTypes.{PicturePlan}
use Rattle.known_unit_laws.specs.PlanTypes.{address_of}
use Rattle.known_unit_laws.specs.SpecPictureTrees.{TreeUnit}
use Rattle.known_unit_laws.specs.SpecPictureTrees.{is_of_unit as has_place_of}
use Rattle.known_unit_laws.specs.SpecPictureTrees.{picture_shape, slice_start}
use Rattle.locality_laws.specs.SpecPictureMotion.{collocated_motions}
use Rattle.locality_laws.specs.SpecPictureMotion.{collocated_entry}
use Rattle.locality_laws.specs.SpecPictureBuild.{is_of_unit, unit_inter}
use Rattle.locality_laws.specs.SpecPictureBuild.{DecodedPicture, motions_of}
use Rattle.spec_flights.specs.SpecPictureFilters.{is_component}
use Rattle.spec_flights.specs.SpecDecodedPictures.{DecodedUnits}
use Rattle.locality_laws.specs.Beside.{SamplesAgreeBeside}
use Rattle.locality_laws.specs.Motion.{MotionAgreesBeneath, MotionAgreesBeside}
use Rattle.locality_laws.specs.Needed.{AgreeForItem}
use Rattle.known_picture_laws.specs.FilterData.{is_place_beside}

-- what a unit of a segment is decoded from: a buffer and what other units make of the picture, which agree with
-- another buffer and with the picture itself on all that is read of them: samples and motion at the unit's border, as
-- far as they are available; the collocated picture's motion in the unit's row; the rows of reference pictures that its
-- prediction units need; and for its edges motion and what is coded directly beside it, of whichever slice
pub record ReadsAsPicture (buffer others : List DecodedPicture) (p : PicturePlan) (s : SegmentPlan) (unit : TreeUnit)
    (whole g : DecodedUnits) : Type 0 where
  pub samples : SamplesAgreeBeside (picture_shape p.sps p.pps) (address_of (slice_start p s)) unit.ctu whole.samples
      g.samples
  pub motions : MotionAgreesBeside (picture_shape p.sps p.pps) (address_of (slice_start p s)) unit.ctu whole.motions
      g.motions
  pub beneath : MotionAgreesBeneath (picture_shape p.sps p.pps) unit.ctu
      (collocated_motions (motions_of buffer) (collocated_entry s.header.slice (slice_start p s).lists))
      (collocated_motions (motions_of others) (collocated_entry s.header.slice (slice_start p s).lists))
  pub needed : All (AgreeForItem (ctb_log2 p.sps.blocks) (unit_inter others p s unit g.motions) buffer others)
      unit.read.items
  pub edges : (x y : ℕ) → is_place_beside (picture_shape p.sps p.pps) unit.ctu x y ≡ true
      → whole.motions x y ≡ g.motions x y
  pub coded : (x y : ℕ) → is_place_beside (picture_shape p.sps p.pps) unit.ctu x y ≡ true
      → whole.filters.coded x y ≡ g.filters.coded x y

-- two pictures are the same at the unit at an address
pub record AgreeOnUnit (p : PicturePlan) (address : ℕ) (a b : DecodedUnits) : Type 0 where
  pub samples : (c x y : ℕ) → is_of_unit (picture_shape p.sps p.pps) address c x y ≡ true
      → a.samples c x y ≡ b.samples c x y
  pub motions : (x y : ℕ) → has_place_of (picture_shape p.sps p.pps) address x y ≡ true
      → a.motions x y ≡ b.motions x y
  pub places : (x y : ℕ) → has_place_of (picture_shape p.sps p.pps) address x y ≡ true
      → a.filters.places x y ≡ b.filters.places x y
  pub coded : (x y : ℕ) → has_place_of (picture_shape p.sps p.pps) address x y ≡ true
      → a.filters.coded x y ≡ b.filters.coded x y
  pub units : (c column row : ℕ) → is_component p address c column row ≡ true
      → a.filters.units c column row ≡ b.filters.units c column row
