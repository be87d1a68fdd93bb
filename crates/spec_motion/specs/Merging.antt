-- Merging (8.5.3.2.2 to 8.5.3.2.5): a list of candidates, of which merge_idx names one.
use Rattle.std.specs.Prelude.{ℕ, ◌+◌, ◌-◌, ◌*◌, ◌/◌, ◌^◌, ◌==◌, Bool, true, false, not, ◌&&◌, nat_lt, min, Option}
use Rattle.std.specs.Prelude.{Some}
use Rattle.std.specs.Prelude.{None, List, [], ◌∷◌, ◌++◌, length, take, map, filter_map, option_to_list}
use Rattle.std.specs.Prelude.{slice_index_or}
use Rattle.std.specs.Prelude.{if◌then◌else◌}
use Rattle.std.specs.List.{range_with_len}
use Rattle.ctu_records.specs.declared.prediction.Mv.{Mv}
use Rattle.ctu_records.specs.declared.prediction.PartMode.{PartMode}
use Rattle.ctu_records.specs.declared.prediction.PartMode.TheVariants.{TwoNxN, Nx2N, TwoNxnU, TwoNxnD, NLx2N, NRx2N}
use Rattle.ctu_records.specs.declared.prediction.PredictionUnit.{PredictionUnit}
use Rattle.ctu_records.specs.declared.prediction.Rectangle.{Rectangle}
use Rattle.ctu_records.specs.Prediction.{part_block, rectangle}
use Rattle.spec_motion.specs.declared.pairs.TheConstants.{COMBINED_PAIRS}
use Rattle.spec_motion.specs.declared.slice_motion.SliceMotion.{SliceMotion}
use Rattle.spec_motion.specs.declared.vectors.Motion.{Motion}
use Rattle.spec_motion.specs.declared.vectors.Vector.{Vector}
use Rattle.spec_motion.specs.Vectors.{Beneath, Known, no_motion, reference_in, same_motion, same_mv, zero_mv}
use Rattle.spec_motion.specs.Temporal.{temporal_mv}

-- singleMCLFlag: the prediction units of a coding unit of 8 luma samples have one list
abbrev pub is_shared : SliceMotion → PredictionUnit → Bool
is_shared slice unit = nat_lt 2 slice.log2_parallel && unit.unit.log2_size == 1

-- the block whose list it is
abbrev pub merge_block : SliceMotion → PredictionUnit → Rectangle
merge_block slice unit =
    if is_shared slice unit
    then rectangle unit.unit.x unit.unit.y (2 ^ unit.unit.log2_size) (2 ^ unit.unit.log2_size)
    else part_block unit.unit unit.part_mode unit.part

-- whether a coding unit's parts stand side by side, or one above the other
abbrev pub is_cut_upright : PartMode → Bool
is_cut_upright Nx2N = true
is_cut_upright NLx2N = true
is_cut_upright NRx2N = true
is_cut_upright _ = false

-- whether a mode cuts a unit into an upper and a lower part
abbrev pub is_cut_level : PartMode → Bool
is_cut_level TwoNxN = true
is_cut_level TwoNxnU = true
is_cut_level TwoNxnD = true
is_cut_level _ = false

-- whether a unit is the second of two parts, and its list is its own: it doesn't merge with the first
abbrev pub is_right_part : SliceMotion → PredictionUnit → Bool
is_right_part slice unit = not (is_shared slice unit) && (unit.part == 1 && is_cut_upright unit.part_mode)

-- whether a part is the lower of two, whose candidate B1 is passed over
abbrev pub is_lower_part : SliceMotion → PredictionUnit → Bool
is_lower_part slice unit = not (is_shared slice unit) && (unit.part == 1 && is_cut_level unit.part_mode)

-- whether a place beside a block, by column and row counted from 1, is in the block's parallel merge region
unfoldable pub is_in_region : ℕ → Rectangle → ℕ → ℕ → Bool
is_in_region log2_parallel block column row =
    let side : ℕ = 2 ^ (log2_parallel - 2) in
    (nat_lt 0 column && block.x / side == (column - 1) / side) && (nat_lt 0 row && block.y / side == (row - 1) / side)

-- the motion at a place beside a block, where merging may use it
unfoldable pub merge_motion : SliceMotion → Known → Rectangle → ℕ → ℕ → Option Motion
merge_motion slice known block column row =
    if is_in_region slice.log2_parallel block column row then None else known column row

-- whether both of two candidates are there and have the same motion
abbrev pub is_same : Option Motion → Option Motion → Bool
is_same None other = false
is_same (Some candidate) None = false
is_same (Some candidate) (Some other) = same_motion candidate other

-- a candidate, unless it has the motion of another one
abbrev pub unless_same : Option Motion → Option Motion → Option Motion
unless_same candidate other = if is_same candidate other then None else candidate

-- those that are there
abbrev pub present : List (Option Motion) → List Motion
present [] = []
present (candidate ∷ candidates) = option_to_list candidate ++ present candidates

-- which of the motions at A1, B1, B0, A0 and B2 are candidates: each that isn't as the ones that it is compared with,
-- and B2 where the others aren't four
unfoldable pub spatial_of : Option Motion → Option Motion → Option Motion → Option Motion → Option Motion → List Motion
spatial_of a1 b1 b0 a0 b2 =
    let four : List Motion = present (a1 ∷ unless_same b1 a1 ∷ unless_same b0 b1 ∷ unless_same a0 a1 ∷ []) in
    four ++ (if length four == 4 then [] else option_to_list (unless_same (unless_same b2 a1) b1))

-- the spatial candidates of a unit (8.5.3.2.3)
unfoldable pub spatial_candidates : SliceMotion → Known → PredictionUnit → List Motion
spatial_candidates slice known unit =
    let block : Rectangle = merge_block slice unit in
    let at : ℕ → ℕ → Option Motion = merge_motion slice known block in
    spatial_of
    (if is_right_part slice unit then None else at block.x (block.y + block.height))
    (if is_lower_part slice unit then None else at (block.x + block.width) block.y)
    (at (block.x + block.width + 1) block.y)
    (at block.x (block.y + block.height + 1))
    (at block.x block.y)

-- a vector of refIdx 0
abbrev pub first_reference : Option Mv → Option Vector
first_reference None = None
first_reference (Some mv) = Some (record { mv = mv; ref_idx = 0 })

-- the motion of two vectors, of which one has to be there
abbrev pub motion_of : Option Vector → Option Vector → Option Motion
motion_of None None = None
motion_of None (Some second) = Some (record { list_0 = None; list_1 = Some second })
motion_of (Some first) second = Some (record { list_0 = Some first; list_1 = second })

-- the temporal candidate of a block: the vectors of both lists in B slices, with refIdx 0
unfoldable pub temporal_candidate : SliceMotion → Beneath → Rectangle → Option Motion
temporal_candidate slice beneath block =
    motion_of
    (first_reference (temporal_mv slice beneath block 0 0))
    (if slice.is_b then first_reference (temporal_mv slice beneath block 1 0) else None)

-- the spatial candidates, and the temporal one behind them
unfoldable pub found_candidates : SliceMotion → Beneath → Known → PredictionUnit → List Motion
found_candidates slice beneath known unit =
    spatial_candidates slice known unit ++ option_to_list (temporal_candidate slice beneath (merge_block slice unit))

-- whether two vectors point to the same picture with the same displacement
abbrev pub is_doubled : SliceMotion → Vector → Vector → Bool
is_doubled slice first second =
    (reference_in slice 0 first.ref_idx).picture == (reference_in slice 1 second.ref_idx).picture
    && same_mv first.mv second.mv

-- the vector of one candidate in list 0 and that of another in list 1, where both are there and differ (8.5.3.2.4)
abbrev pub combination_of : SliceMotion → Option Vector → Option Vector → Option Motion
combination_of slice None second = None
combination_of slice (Some first) None = None
combination_of slice (Some first) (Some second) =
    if is_doubled slice first second then None else Some (record { list_0 = Some first; list_1 = Some second })

-- the combination of candidate i in list 0 and candidate j in list 1
unfoldable pub combination : SliceMotion → List Motion → ℕ → ℕ → Option Motion
combination slice found i j =
    combination_of slice (slice_index_or found i no_motion).list_0 (slice_index_or found j no_motion).list_1

-- the combined bi-predictive candidates of those found, as many as there is room for
unfoldable pub combinations : SliceMotion → List Motion → List Motion
combinations slice found =
    filter_map (λ pair. combination slice found pair.0 pair.1) (take (length found * (length found - 1)) COMBINED_PAIRS)

-- the combined candidates of B slices, where there are two others or more (8.5.3.2.4)
unfoldable pub combined_candidates : SliceMotion → List Motion → List Motion
combined_candidates slice found =
    if slice.is_b && (nat_lt 1 (length found) && nat_lt (length found) slice.max_candidates)
    then take (slice.max_candidates - length found) (combinations slice found)
    else []

-- a zero candidate, by zeroIdx (8.5.3.2.5)
abbrev pub zero_vector : ℕ → Vector
zero_vector ref_idx = record { mv = zero_mv; ref_idx = ref_idx }

-- the reference goes up with zeroIdx as far as the lists have entries
unfoldable pub zero_candidate : SliceMotion → ℕ → Motion
zero_candidate slice i =
    if slice.is_b
    then (let r : ℕ = if nat_lt i (min slice.active_0 slice.active_1) then i else 0 in
    record { list_0 = Some (zero_vector r); list_1 = Some (zero_vector r) })
    else (let r : ℕ = if nat_lt i slice.active_0 then i else 0 in
    record { list_0 = Some (zero_vector r); list_1 = None })

-- candidates, and zero candidates behind them up to MaxNumMergeCand
abbrev pub filled : SliceMotion → List Motion → List Motion
filled slice candidates =
    candidates ++ map (zero_candidate slice) (range_with_len 0 (slice.max_candidates - length candidates))

-- those found, with what follows from them
unfoldable pub completed : SliceMotion → List Motion → List Motion
completed slice found = filled slice (found ++ combined_candidates slice found)

-- mergeCandList
unfoldable pub merge_candidates : SliceMotion → Beneath → Known → PredictionUnit → List Motion
merge_candidates slice beneath known unit = completed slice (found_candidates slice beneath known unit)

-- a unit of 8x4 or 4x8 luma samples that has both vectors keeps the one in list 0
abbrev pub first_alone : Option Vector → Option Vector → Motion
first_alone None second = record { list_0 = None; list_1 = second }
first_alone (Some first) second = record { list_0 = Some first; list_1 = None }

-- 8x4 and 4x8 blocks are predicted from list 0 alone, where from both (8.5.3.2.2)
abbrev pub restricted : Rectangle → Motion → Motion
restricted block motion = if block.width + block.height == 3 then first_alone motion.list_0 motion.list_1 else motion

-- the motion of a unit that merges (8.5.3.2.2)
unfoldable pub merged : SliceMotion → Beneath → Known → PredictionUnit → ℕ → Motion
merged slice beneath known unit index =
    restricted (part_block unit.unit unit.part_mode unit.part)
    (slice_index_or (merge_candidates slice beneath known unit) index no_motion)
