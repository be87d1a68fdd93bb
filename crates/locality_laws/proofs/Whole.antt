-- The samples of each unit of a picture are the step of what stands beside it, and of the pictures that it refers to.
use Rattle.std.proofs.Common.{◌≡◌, ℕ, ◌<◌, ◌≤◌, Option, Some, None, List, [], ◌∷◌, ◌++◌, All, refl, sym, ap, ◌∙◌}
use Rattle.std.proofs.Common.{true}
use Rattle.std.proofs.Common.{slice_get, fold}
use Rattle.picture_layout.specs.PlanTypes.{SegmentPlan}
use Rattle.picture_layout.specs.PlanTypes.{PicturePlan}
use Rattle.picture_layout.specs.PlanTypes.{address_of}
use Rattle.picture_layout.specs.SpecSliceData.{PictureShape}
use Rattle.spec_motion.specs.Vectors as motion
use Rattle.picture_layout.specs.SpecPictureTrees.{TreeUnit}
use Rattle.picture_layout.specs.SpecPictureTrees.{first_column, first_row}
use Rattle.picture_layout.specs.SpecPictureTrees.{picture_shape, slice_start}
use Rattle.spec_picture_motion.specs.Derived.{collocated_motions, known_of_unit, units_derived}
use Rattle.spec_picture_motion.specs.Derived as derived
use Rattle.spec_picture_motion.specs.Field.{Motions}
use Rattle.spec_picture_motion.specs.Slices.{collocated_entry, slice_motion}
use Rattle.spec_picture_build.specs.SpecReconstruction.{InterUnit}
use Rattle.spec_picture_build.specs.SpecReconstruction.{Known}
use Rattle.spec_picture_build.specs.SpecReconstruction.{unit_built}
use Rattle.spec_picture_build.specs.Border.{Samples, known_beside}
use Rattle.spec_picture_build.specs.Built.{BuiltPicture, added_in, is_of_unit, no_picture, samples_added, unit_added}
use Rattle.spec_picture_build.specs.Built.{unit_inter, unit_laid, units_built, with_unit}
use Rattle.spec_picture_build.specs.Format.{unit_format}
use Rattle.spec_picture_build.specs.References.{DecodedPicture, motions_of, pictures_of}
use Rattle.spec_picture_build.specs.Weights.{slice_weighting}
use Rattle.locality_laws.specs.Beside.{SamplesAgreeBeside}
use Rattle.locality_laws.specs.Motion.{MotionAgreesBeneath, MotionAgreesBeside}
use Rattle.locality_laws.specs.Needed.{AgreeForItem}
use Rattle.locality_laws.specs.References.{with_pictures}
use Rattle.locality_laws.proofs.Moved.{known_is_its_step}
use Rattle.locality_laws.proofs.Needed.{needed_same}
use Rattle.locality_laws.proofs.Steps.{unit_is_its_step}

-- the motion of a picture that is built is that of its units
module _ (buffer : List DecodedPicture) (p : PicturePlan) where
  motion_in : (s : Option SegmentPlan) (unit : TreeUnit) (built : BuiltPicture)
      → (added_in buffer p s unit built).motions ≡ derived.added_in (motions_of buffer) p s unit built.motions
  unfolding unit_added
  motion_in None unit built = refl
  motion_in (Some s) unit built = refl

  motion_from : (units : List TreeUnit) (built : BuiltPicture)
      → (fold (with_unit buffer p) built units).motions
      ≡ fold (derived.with_unit (motions_of buffer) p) built.motions units
  motion_from [] built = refl
  motion_from (u ∷ units) built =
      motion_from units (with_unit buffer p built u)
      ∙ ap (λ (m : Motions). fold (derived.with_unit (motions_of buffer) p) m units)
      (motion_in (slice_get p.segments u.segment) u built)

  pub motion_is : (units : List TreeUnit)
      → (units_built buffer p units).motions ≡ units_derived (motions_of buffer) p units
  unfolding units_built units_derived
  motion_is units = motion_from units no_picture

module _ (buffer others : List DecodedPicture) (p : PicturePlan) (before later : List TreeUnit) (unit : TreeUnit)
    (s : SegmentPlan) (m : Motions) where
  abbrev shape : PictureShape
  shape = picture_shape p.sps p.pps

  abbrev whole : BuiltPicture
  whole = units_built buffer p (before ++ unit ∷ later)

  abbrev so_far : BuiltPicture
  so_far = units_built buffer p before

  abbrev slice_at : ℕ
  slice_at = address_of (slice_start p s)

  -- what inter prediction depends on, by what is known of motion
  abbrev inter_by : motion.Known → InterUnit
  inter_by known = record {
    motion = known;
    slice = slice_motion p s unit.ctu;
    weighting = slice_weighting s.header.slice.inter;
    pictures = pictures_of p.sps.format buffer;
    column = first_column (picture_shape p.sps p.pps) unit.ctu;
    row = first_row (picture_shape p.sps p.pps) unit.ctu;
  }

  inter_is : known_of_unit (motions_of buffer) p s unit so_far.motions ≡ known_of_unit (motions_of others) p s unit m
      → unit_inter buffer p s unit so_far.motions
      ≡ with_pictures (unit_inter others p s unit m) (pictures_of p.sps.format buffer)
  unfolding unit_inter
  inter_is e = ap inter_by e

  own_pictures : with_pictures (unit_inter others p s unit m) (pictures_of p.sps.format others)
      ≡ unit_inter others p s unit m
  unfolding unit_inter
  own_pictures = refl

  known_same : slice_get p.segments unit.segment ≡ Some s → All (λ (u : TreeUnit). unit.ctu < u.ctu) later
      → MotionAgreesBeside shape slice_at unit.ctu whole.motions m
      → MotionAgreesBeneath shape unit.ctu
      (collocated_motions (motions_of buffer) (collocated_entry s.header.slice (slice_start p s).lists))
      (collocated_motions (motions_of others) (collocated_entry s.header.slice (slice_start p s).lists))
      → known_of_unit (motions_of buffer) p s unit so_far.motions ≡ known_of_unit (motions_of others) p s unit m
  known_same e all beside beneath =
      ap (λ (k : Motions). known_of_unit (motions_of buffer) p s unit k) (motion_is buffer p before)
      ∙ known_is_its_step (motions_of buffer) p before later unit s (motions_of others) m e all
      (λ x y border there.
      ap (λ (k : Motions). k x y) (sym (motion_is buffer p (before ++ unit ∷ later))) ∙ beside x y border there)
      beneath

  built_same : (a b : InterUnit) (g : Samples) (c x y : ℕ)
      → ((known : Known) → unit_built (unit_format p.sps p.pps s.header.slice) a unit.read.items known
      ≡ unit_built (unit_format p.sps p.pps s.header.slice) b unit.read.items known)
      → samples_added a p s unit g c x y ≡ samples_added b p s unit g c x y
  unfolding samples_added
  built_same a b g c x y same =
      ap (λ (k : Known). unit_laid shape unit.ctu k g c x y) (same (known_beside shape slice_at unit.ctu g))

  pub samples_are_steps : (ctb_log2 : ℕ) (g : Samples) (c x y : ℕ) → 1 ≤ shape.width → 1 ≤ ctb_log2
      → slice_get p.segments unit.segment ≡ Some s → All (λ (u : TreeUnit). unit.ctu < u.ctu) later
      → SamplesAgreeBeside shape slice_at unit.ctu whole.samples g
      → MotionAgreesBeside shape slice_at unit.ctu whole.motions m
      → MotionAgreesBeneath shape unit.ctu
      (collocated_motions (motions_of buffer) (collocated_entry s.header.slice (slice_start p s).lists))
      (collocated_motions (motions_of others) (collocated_entry s.header.slice (slice_start p s).lists))
      → All (AgreeForItem ctb_log2 (unit_inter others p s unit m) buffer others) unit.read.items
      → is_of_unit shape unit.ctu c x y ≡ true
      → whole.samples c x y ≡ samples_added (unit_inter others p s unit m) p s unit g c x y
  samples_are_steps ctb_log2 g c x y wide some e all beside moved beneath needed mine =
      let mid : InterUnit = with_pictures (unit_inter others p s unit m) (pictures_of p.sps.format buffer) in
      let end : InterUnit = with_pictures (unit_inter others p s unit m) (pictures_of p.sps.format others) in
      unit_is_its_step buffer p before later unit s wide e all g beside c x y mine
      ∙ ap (λ (i : InterUnit). samples_added i p s unit g c x y) (inter_is (known_same e all moved beneath))
      ∙ built_same mid end g c x y (λ known.
      needed_same (unit_format p.sps p.pps s.header.slice) (unit_inter others p s unit m) p.sps.format ctb_log2 buffer
      others some unit.read.items known needed)
      ∙ ap (λ (i : InterUnit). samples_added i p s unit g c x y) own_pictures
