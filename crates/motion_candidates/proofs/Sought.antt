-- The vector of a place that a search takes.
use Rattle.std.proofs.Common.{◌≡◌, ℕ, Option, refl}
use Rattle.std.specs.Prelude.{option_and_then}
use Rattle.motion_candidates.specs.declared.pointing.Search.{Search}
use Rattle.motion_candidates.specs.declared.pointing.Search.TheVariants.{SameMark, SamePicture}
use Rattle.motion_candidates.specs.Predictors.{of_motion, sought}
use Rattle.spec_motion.specs.declared.slice_motion.SliceMotion.{SliceMotion}
use Rattle.spec_motion.specs.declared.vectors.Motion.{Motion}
use Rattle.spec_motion.specs.declared.vectors.Reference.{Reference}
use Rattle.spec_motion.specs.VectorPrediction.{pointing, reaching}

pub sought_by : (search : Search) (slice : SliceMotion) (list : ℕ) (target : Reference) (place : Option Motion)
    → sought search slice list target place ≡ option_and_then (of_motion search slice list target) place
unfolding pointing reaching
sought_by SamePicture slice list target place = refl
sought_by SameMark slice list target place = refl
