-- Advanced motion vector prediction (8.5.3.2.6, 8.5.3.2.7): a list of two predictors of a vector, of which mvp_lX_flag
-- names one. At each place list X is looked at before the other.
use Rattle.std.specs.Prelude.{ℕ, ◌+◌, ◌==◌, Bool, true, false, ◌||◌, ◌-ℤ◌, Option, Some, None, List, [], ◌∷◌, ◌++◌}
use Rattle.std.specs.Prelude.{map}
use Rattle.std.specs.Prelude.{take, option_and_then, option_to_list, slice_index_or, if◌then◌else◌}
use Rattle.ctu_records.specs.declared.prediction.Mv.{Mv}
use Rattle.ctu_records.specs.declared.prediction.Rectangle.{Rectangle}
use Rattle.spec_motion.specs.declared.slice_motion.SliceMotion.{SliceMotion}
use Rattle.spec_motion.specs.declared.vectors.Motion.{Motion}
use Rattle.spec_motion.specs.declared.vectors.Reference.{Reference}
use Rattle.spec_motion.specs.declared.vectors.Vector.{Vector}
use Rattle.spec_motion.specs.Vectors.{Beneath, Known, agree, in_list, or_else, other_list, reference_in}
use Rattle.spec_motion.specs.Vectors.{same_mv, zero_mv}
use Rattle.spec_motion.specs.Scaling.{scaled}
use Rattle.spec_motion.specs.Temporal.{temporal_mv}

-- a vector that points to the picture of a reference
abbrev pub if_same_picture : Reference → Reference → Mv → Option Mv
if_same_picture target reference mv = if reference.picture == target.picture then Some mv else None

-- the vector of a place in a list that points to the picture of a reference
abbrev pub same_picture_in : SliceMotion → ℕ → Reference → Motion → Option Mv
same_picture_in slice list target motion =
    option_and_then (λ (v : Vector). if_same_picture target (reference_in slice list v.ref_idx) v.mv)
    (in_list list motion)

-- that in list X, or else that in the other one
abbrev pub of_same_picture : SliceMotion → ℕ → Reference → Motion → Option Mv
of_same_picture slice list target motion =
    or_else (same_picture_in slice list target motion) (same_picture_in slice (other_list list) target motion)

-- that of a place, where it has motion
unfoldable pub pointing : SliceMotion → ℕ → Reference → Option Motion → Option Mv
pointing slice list target place = option_and_then (of_same_picture slice list target) place

-- a vector whose reference has the same mark as long-term, scaled
unfoldable pub if_same_mark : SliceMotion → Reference → Reference → Mv → Option Mv
if_same_mark slice target reference mv =
    if agree target.long_term reference.long_term
    then Some (if target.long_term then mv
    else scaled (slice.order -ℤ reference.order) (slice.order -ℤ target.order) mv)
    else None

-- the vector of a place in a list whose reference has the same mark, scaled
abbrev pub same_mark_in : SliceMotion → ℕ → Reference → Motion → Option Mv
same_mark_in slice list target motion =
    option_and_then (λ (v : Vector). if_same_mark slice target (reference_in slice list v.ref_idx) v.mv)
    (in_list list motion)

-- that in list X, or else that in the other one
abbrev pub of_same_mark : SliceMotion → ℕ → Reference → Motion → Option Mv
of_same_mark slice list target motion =
    or_else (same_mark_in slice list target motion) (same_mark_in slice (other_list list) target motion)

-- that of a place, where it has motion
unfoldable pub reaching : SliceMotion → ℕ → Reference → Option Motion → Option Mv
reaching slice list target place = option_and_then (of_same_mark slice list target) place

-- the first one of a list that is there
abbrev pub first_of : List (Option Mv) → Option Mv
first_of [] = None
first_of (candidate ∷ candidates) = or_else candidate (first_of candidates)

-- whether a place has motion
abbrev pub is_there : Option Motion → Bool
is_there None = false
is_there (Some motion) = true

-- whether both of two candidates are there and are the same
abbrev pub is_same_mv : Option Mv → Option Mv → Bool
is_same_mv None second = false
is_same_mv (Some first) None = false
is_same_mv (Some first) (Some second) = same_mv first second

-- two candidates, the first alone where the second one is the same
abbrev pub distinct : Option Mv → Option Mv → List Mv
distinct first second = option_to_list first ++ (if is_same_mv first second then [] else option_to_list second)

-- the spatial candidates A and B, by the motions at A0 and A1, and at B0, B1 and B2
unfoldable pub spatial_mvs : SliceMotion → ℕ → Reference → List (Option Motion) → List (Option Motion) → Bool → List Mv
spatial_mvs slice list target left above is_left =
    let pointing_b : Option Mv = first_of (map (pointing slice list target) above) in
    if is_left
    then distinct
    (or_else (first_of (map (pointing slice list target) left)) (first_of (map (reaching slice list target) left)))
    pointing_b
    else distinct pointing_b (first_of (map (reaching slice list target) above))

-- those of a block, by its places
unfoldable pub spatial_predictors : SliceMotion → Known → Rectangle → ℕ → Reference → List Mv
spatial_predictors slice known block list target =
    let a0 : Option Motion = known block.x (block.y + block.height + 1) in
    let a1 : Option Motion = known block.x (block.y + block.height) in
    let b0 : Option Motion = known (block.x + block.width + 1) block.y in
    let b1 : Option Motion = known (block.x + block.width) block.y in
    let b2 : Option Motion = known block.x block.y in
    spatial_mvs slice list target (a0 ∷ a1 ∷ []) (b0 ∷ b1 ∷ b2 ∷ []) (is_there a0 || is_there a1)

-- mvpListLX of a block, by list X and refIdxLX: the temporal predictor counts where there are fewer than two others,
-- and vectors of 0 fill the list
unfoldable pub mv_predictors : SliceMotion → Beneath → Known → Rectangle → ℕ → ℕ → List Mv
mv_predictors slice beneath known block list ref_idx =
    take 2 (spatial_predictors slice known block list (reference_in slice list ref_idx)
    ++ option_to_list (temporal_mv slice beneath block list ref_idx) ++ zero_mv ∷ zero_mv ∷ [])

-- mvpLX
unfoldable pub predicted_mv : SliceMotion → Beneath → Known → Rectangle → ℕ → ℕ → Bool → Mv
predicted_mv slice beneath known block list ref_idx mvp =
    slice_index_or (mv_predictors slice beneath known block list ref_idx) (if mvp then 1 else 0) zero_mv
