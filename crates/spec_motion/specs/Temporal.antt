-- Temporal vector prediction (8.5.3.2.8, 8.5.3.2.9).
use Rattle.std.specs.Prelude.{ℕ, ◌+◌, ◌/◌, ◌==◌, Bool, not, ◌&&◌, ◌||◌, nat_lt, int_le, ℤ, ◌-ℤ◌, Option, Some, None}
use Rattle.std.specs.Prelude.{option_and_then, take, if◌then◌else◌}
use Rattle.std.specs.List.{list_all}
use Rattle.ctu_records.specs.declared.prediction.Mv.{Mv}
use Rattle.ctu_records.specs.declared.prediction.Rectangle.{Rectangle}
use Rattle.spec_motion.specs.declared.collocation.Collocated.{Collocated}
use Rattle.spec_motion.specs.declared.collocation.CollocatedVector.{CollocatedVector}
use Rattle.spec_motion.specs.declared.slice_motion.SliceMotion.{SliceMotion}
use Rattle.spec_motion.specs.declared.vectors.Reference.{Reference}
use Rattle.spec_motion.specs.Vectors.{Beneath, agree, or_else, reference_in}
use Rattle.spec_motion.specs.Scaling.{scaled}

-- whether a picture isn't later than another one in output order
abbrev pub is_not_later : ℤ → Reference → Bool
is_not_later order reference = int_le reference.order order

-- whether DiffPicOrderCnt( aPic, currPic ) is at most 0 for every picture of every reference picture list
unfoldable pub is_none_later : SliceMotion → Bool
is_none_later slice =
    list_all (is_not_later slice.order) (take slice.active_0 slice.references_0)
    && (not slice.is_b || list_all (is_not_later slice.order) (take slice.active_1 slice.references_1))

-- which of two lists gives mvCol where both have a vector: list X where no reference is later, else list N, N being
-- collocated_from_l0_flag
abbrev pub takes_first : SliceMotion → ℕ → Bool
takes_first slice list = if is_none_later slice then list == 0 else not slice.from_list_0

-- mvCol, refIdxCol and listCol
abbrev pub mv_col : SliceMotion → ℕ → Option CollocatedVector → Option CollocatedVector → Option CollocatedVector
mv_col slice list None second = second
mv_col slice list (Some first) None = Some first
mv_col slice list (Some first) (Some second) = if takes_first slice list then Some first else Some second

-- a vector of the collocated picture, brought to a reference of the slice; none where their marks as long-term differ
unfoldable pub brought : SliceMotion → Reference → CollocatedVector → Option Mv
brought slice target vector =
    if agree target.long_term vector.long_term
    then Some (if target.long_term then vector.mv
    else scaled (slice.collocated_order -ℤ vector.order) (slice.order -ℤ target.order) vector.mv)
    else None

-- mvLXCol of a block of the collocated picture
abbrev pub mv_lx_col : SliceMotion → ℕ → Reference → Option Collocated → Option Mv
mv_lx_col slice list target None = None
mv_lx_col slice list target (Some block) =
    option_and_then (brought slice target) (mv_col slice list block.list_0 block.list_1)

-- what the collocated picture has at the bottom right of a block, where that place is inside the picture and in the row
-- of coding tree blocks; the place is brought to its block of 4x4 places behind that
unfoldable pub bottom_right : SliceMotion → Beneath → Rectangle → Option Collocated
bottom_right slice beneath block =
    if (nat_lt (block.x + block.width) slice.right && nat_lt (block.y + block.height) slice.lower)
    && nat_lt (block.y + block.height) slice.side
    then beneath ((block.x + block.width) / 4) ((block.y + block.height) / 4)
    else None

-- what it has at the block's centre
unfoldable pub centre : Beneath → Rectangle → Option Collocated
centre beneath block = beneath ((block.x + block.width / 2) / 4) ((block.y + block.height / 2) / 4)

-- mvLXCol of a block, by list X and refIdxLX
unfoldable pub temporal_mv : SliceMotion → Beneath → Rectangle → ℕ → ℕ → Option Mv
temporal_mv slice beneath block list ref_idx =
    if slice.temporal
    then or_else
    (mv_lx_col slice list (reference_in slice list ref_idx) (bottom_right slice beneath block))
    (mv_lx_col slice list (reference_in slice list ref_idx) (centre beneath block))
    else None
