-- Which vector a search takes, and which of two spatial predictors, a temporal one and vectors of 0 is taken.
use Rattle.std.specs.Prelude.{ℕ, Bool, true, false, Option, Some, None, [], ◌∷◌, ◌++◌, take, option_and_then}
use Rattle.std.specs.Prelude.{option_to_list, slice_index_or, if◌then◌else◌}
use Rattle.ctu_records.specs.declared.prediction.Mv.{Mv}
use Rattle.motion_candidates.specs.declared.pointing.Search.{Search}
use Rattle.motion_candidates.specs.declared.pointing.Search.TheVariants.{SameMark, SamePicture}
use Rattle.spec_motion.specs.declared.slice_motion.SliceMotion.{SliceMotion}
use Rattle.spec_motion.specs.declared.vectors.Motion.{Motion}
use Rattle.spec_motion.specs.declared.vectors.Reference.{Reference}
use Rattle.spec_motion.specs.declared.vectors.Vector.{Vector}
use Rattle.spec_motion.specs.VectorPrediction.{if_same_mark, if_same_picture, pointing, reaching}
use Rattle.spec_motion.specs.Vectors.{in_list, or_else, other_list, reference_in, zero_mv}

-- a vector that a search takes for a reference
abbrev pub taken : Search → SliceMotion → Reference → Reference → Mv → Option Mv
taken SamePicture slice target reference mv = if_same_picture target reference mv
taken SameMark slice target reference mv = if_same_mark slice target reference mv

-- the vector of a motion in a list that it takes
abbrev pub taken_in : Search → SliceMotion → ℕ → Reference → Motion → Option Mv
taken_in search slice list target motion =
    option_and_then (λ (v : Vector). taken search slice target (reference_in slice list v.ref_idx) v.mv)
    (in_list list motion)

-- that in list X, or else that in the other one
abbrev pub of_motion : Search → SliceMotion → ℕ → Reference → Motion → Option Mv
of_motion search slice list target motion =
    or_else (taken_in search slice list target motion) (taken_in search slice (other_list list) target motion)

-- that of a place
abbrev pub sought : Search → SliceMotion → ℕ → Reference → Option Motion → Option Mv
sought SamePicture = pointing
sought SameMark = reaching

-- the first or the second of those that are there, and of vectors of 0 behind them
unfoldable pub nth : Option Mv → Option Mv → Option Mv → Bool → Mv
nth first second temporal mvp =
    slice_index_or
    (take 2 (option_to_list first ++ option_to_list second ++ option_to_list temporal ++ zero_mv ∷ zero_mv ∷ []))
    (if mvp then 1 else 0) zero_mv

-- whether it depends on the temporal predictor
abbrev pub is_needed : Option Mv → Option Mv → Bool → Bool
is_needed (Some first) (Some second) mvp = false
is_needed (Some first) None mvp = mvp
is_needed None (Some second) mvp = mvp
is_needed None None mvp = if mvp then false else true
