-- Planned P and B pictures of which all places have one motion.
use Rattle.std.specs.Prelude.{◌≡◌, ℕ, List, [], ◌∷◌}
use Rattle.header_types.specs.declared.reference_pictures.Mark.{Mark}
use Rattle.plan_types.specs.declared.segment_plan.SegmentPlan.{SegmentPlan}
use Rattle.plan_types.specs.declared.picture_plan.PicturePlan.{PicturePlan}
use Rattle.plan_types.specs.Segments.{address_of}
use Rattle.spec_motion.specs.declared.vectors.Reference.{Reference}
use Rattle.spec_motion.specs.Vectors.{reference_in}
use Rattle.spec_inter_prediction.specs.declared.tables.SliceWeighting.TheVariants.{Default}
use Rattle.spec_picture_trees.specs.Shapes.{picture_shape, slice_start}
use Rattle.spec_picture_motion.specs.Slices.{slice_motion}
use Rattle.spec_picture_build.specs.Format.{unit_format}
use Rattle.spec_picture_build.specs.Weights.{slice_weighting}
use Rattle.made_laws.specs.Plans.{BufferUse}
use Rattle.made_laws.specs.Sets.{made_format}
use Rattle.made_motion_laws.specs.Uniform.{IsPlain}
use Rattle.made_row_laws.specs.Shapes.{made_shape}
use Rattle.made_sample_laws.specs.Units.{HasEightBits}

-- a picture of one slice segment, and the first entry of each of its lists
pub record IsInter (p : PicturePlan) (s : SegmentPlan) (first : ℕ → Reference) : Type 0 where
  pub only : p.segments ≡ s ∷ []
  pub format : p.sps.format ≡ made_format
  pub shape : picture_shape p.sps p.pps ≡ made_shape
  pub address : address_of (slice_start p s) ≡ 0
  pub plain : (i : ℕ) → IsPlain (slice_motion p s i)
  pub references : (list i : ℕ) → reference_in (slice_motion p s i) list 0 ≡ first list
  pub weighting : slice_weighting s.header.slice.inter ≡ Default
  pub bits : HasEightBits (unit_format p.sps p.pps s.header.slice)

-- how a P picture uses the buffer, by the place of its reference there, and a B picture, by those of both
abbrev pub backward : List Mark → List ℕ → List ℕ → List ℕ → ℕ → BufferUse
backward marks before behind kept place = record {
  earlier = place ∷ [];
  later = [];
  marks = marks;
  before = before;
  behind = behind;
  kept = kept;
}

abbrev pub both_ways : List Mark → List ℕ → List ℕ → List ℕ → ℕ → ℕ → BufferUse
both_ways marks before behind kept place later = record {
  earlier = place ∷ [];
  later = later ∷ [];
  marks = marks;
  before = before;
  behind = behind;
  kept = kept;
}
