-- Prediction units: prediction_unit (7.3.8.6) and mvd_coding (7.3.8.9), part_mode (9.3.3.5), and where cu_skip_flag,
-- pred_mode_flag and rqt_root_cbf stand (7.3.8.5).
use Rattle.std.specs.Prelude.{ℕ, ◌+◌, ◌-◌, ◌==◌, ◌&&◌, not, nat_le, nat_lt, ℤ, pos, Bool, true, false, Option, Some}
use Rattle.std.specs.Prelude.{None, if◌then◌else◌}
use Rattle.hv_base.specs.declared.breach.Breach.{Breach}
use Rattle.hv_base.specs.declared.breach.Breach.TheVariants as breach
use Rattle.hv_base.specs.declared.fault.FaultKind.TheVariants as rule
use Rattle.ctu_records.specs.declared.item.Item.TheVariants.{Prediction}
use Rattle.ctu_records.specs.declared.item.Square.{Square}
use Rattle.ctu_records.specs.declared.prediction.Mv.{Mv}
use Rattle.ctu_records.specs.declared.prediction.MotionSyntax.{MotionSyntax}
use Rattle.ctu_records.specs.declared.prediction.MotionSyntax.TheVariants.{Merge, Vectors}
use Rattle.ctu_records.specs.declared.prediction.PartMode.{PartMode}
use Rattle.ctu_records.specs.declared.prediction.PartMode.TheVariants.{Whole, TwoNxN, Nx2N, NxN, TwoNxnU, TwoNxnD}
use Rattle.ctu_records.specs.declared.prediction.PartMode.TheVariants.{NLx2N, NRx2N}
use Rattle.ctu_records.specs.declared.prediction.PredictionUnit.{PredictionUnit}
use Rattle.ctu_records.specs.declared.prediction.Rectangle.{Rectangle}
use Rattle.ctu_records.specs.declared.prediction.VectorSyntax.{VectorSyntax}
use Rattle.ctu_records.specs.Prediction.{part_block}
use Rattle.ctu_records.specs.Tree.{Ctu, added, skipped_left, skipped_above}
use Rattle.spec_residuals.specs.SpecCabac.{CU_SKIP_FLAG, PRED_MODE_FLAG, PART_MODE, MERGE_FLAG}
use Rattle.spec_residuals.specs.SpecCabac.{MERGE_IDX, INTER_PRED_IDC, REF_IDX}
use Rattle.spec_residuals.specs.SpecCabac.{ABS_MVD_GREATER0_FLAG, ABS_MVD_GREATER1_FLAG, MVP_FLAG}
use Rattle.spec_residuals.specs.SpecCabac.{RQT_ROOT_CBF}
use Rattle.spec_residuals.specs.SpecCabac.{Tree, decision, bypass, truncated, exp_golomb}
use Rattle.spec_residuals.specs.SpecFormats.{◌>>=◌, give, wanted, when◌then◌else◌}
use Rattle.spec_slice_data.specs.Offset.{signed}
use Rattle.spec_slice_data.specs.declared.syntax.InterSyntax.{InterSyntax}
use Rattle.spec_slice_data.specs.declared.syntax.UnitStart.{UnitStart}

-- a flag as a number
abbrev pub one_if : Bool → ℕ
one_if b = if b then 1 else 0

-- how many of the places on the left and above are skipped (9.3.4.2.2)
unfoldable pub skipped_beside : Ctu → ℕ → ℕ → ℕ
skipped_beside ctu x y = one_if (skipped_left ctu x y) + one_if (skipped_above ctu x y)

-- cu_skip_flag
abbrev pub cu_skip_flag : InterSyntax → ℕ → ℕ → Ctu → Tree Bool
cu_skip_flag inter x y ctu = when inter.is_inter then decision (CU_SKIP_FLAG + skipped_beside ctu x y) else give false

-- whether CuPredMode is MODE_INTRA: pred_mode_flag, of a skipped coding unit not, in an I slice always
abbrev pub pred_mode_flag : InterSyntax → Bool → Tree Bool
pred_mode_flag inter skipped =
    when skipped then give false else (when inter.is_inter then decision PRED_MODE_FLAG else give true)

-- two parts of one height or width, or of two; then which of them is the lesser
unfoldable pub two_parts : Bool → PartMode → PartMode → PartMode → Tree PartMode
two_parts amp halves lesser_first greater_first = do
  even ← when amp then decision (PART_MODE + 3) else give true
  when even
      then give halves
      else (do
        last ← bypass
        give (if last then greater_first else lesser_first))

-- two parts beside one another, or four in a least coding unit of more than 8x8 luma samples
unfoldable pub beside_or_four : Tree PartMode
beside_or_four = do
  two ← decision (PART_MODE + 2)
  give (if two then Nx2N else NxN)

-- whether a least coding unit has four parts, by the binary logarithm of its side in places
abbrev pub may_have_four : Bool → ℕ → Bool
may_have_four least n = least && nat_lt 1 n

-- parts that aren't over one another
unfoldable pub beside_parts : InterSyntax → Bool → ℕ → Tree PartMode
beside_parts inter least n =
    when may_have_four least n then beside_or_four else two_parts (inter.amp_enabled && not least) Nx2N NLx2N NRx2N

-- part_mode of an inter coding unit behind its first bin
unfoldable pub more_parts : InterSyntax → Bool → ℕ → Tree PartMode
more_parts inter least n = do
  over ← decision (PART_MODE + 1)
  when over then two_parts (inter.amp_enabled && not least) TwoNxN TwoNxnU TwoNxnD else beside_parts inter least n

-- part_mode of an inter coding unit, which is a least one or not
unfoldable pub part_mode : InterSyntax → Bool → ℕ → Tree PartMode
part_mode inter least n = do
  whole ← decision PART_MODE
  when whole then give Whole else more_parts inter least n

-- the first bin of merge_idx has a context
abbrev pub merge_bin : ℕ → Tree Bool
merge_bin i = when i == 0 then decision MERGE_IDX else bypass

-- merge_idx: TR, where there is more than one candidate
abbrev pub merge_idx : InterSyntax → Tree ℕ
merge_idx inter = truncated merge_bin (inter.max_merge - 1)

-- the motion of a unit that merges
abbrev pub merged : InterSyntax → Tree MotionSyntax
merged inter = do
  index ← merge_idx inter
  give (Merge index)

-- the first two bins of ref_idx_lX have a context each
abbrev pub reference_bin : ℕ → Tree Bool
reference_bin i = when nat_lt i 2 then decision (REF_IDX + i) else bypass

-- ref_idx_lX: TR, where so many references are active
abbrev pub ref_idx : ℕ → Tree ℕ
ref_idx active = truncated reference_bin (active - 1)

-- PRED_L0 or PRED_L1
abbrev pub one_list : Tree ℕ
one_list = do
  second ← decision (INTER_PRED_IDC + 4)
  give (one_if second)

-- PRED_BI is 2
abbrev pub one_or_both : ℕ → Tree ℕ
one_or_both depth = do
  both ← decision (INTER_PRED_IDC + depth)
  when both then give 2 else one_list

-- inter_pred_idc, by the depth of the coding unit: blocks of 8x4 and 4x8 luma samples have one list
unfoldable pub inter_pred_idc : InterSyntax → ℕ → Rectangle → Tree ℕ
inter_pred_idc inter depth block =
    when inter.is_b then (when block.width + block.height == 3 then one_list else one_or_both depth) else give 0

-- a difference out of its range (7.4.9.9)
abbrev pub out_of_vectors : Breach
out_of_vectors = breach.Fault rule.MvdRange

-- whether a difference is from -2^15 to 2^15 - 1
unfoldable pub is_difference : ℕ → Bool → Bool
is_difference size negative = if negative then nat_le size 32768 else nat_lt size 32768

-- abs_mvd_minus2 is EG1
unfoldable pub difference_size : Bool → Tree ℕ
difference_size more =
    when more
    then (do
      rest ← exp_golomb out_of_vectors 1
      give (rest + 2))
    else give 1

-- a component of a difference that isn't 0, behind its flags
unfoldable pub some_difference : Bool → Tree ℤ
some_difference more = do
  size ← difference_size more
  negative ← bypass
  held ← wanted (is_difference size negative) out_of_vectors
  give (signed size negative)

-- a coordinate of a difference by both flags
abbrev pub difference : Bool → Bool → Tree ℤ
difference some more = when some then some_difference more else give (pos 0)

-- abs_mvd_greater1_flag, 0 where it isn't coded
abbrev pub abs_mvd_greater1_flag : Bool → Tree Bool
abs_mvd_greater1_flag some = when some then decision ABS_MVD_GREATER1_FLAG else give false

-- mvd_coding
unfoldable pub mvd_coding : Tree Mv
mvd_coding = do
  some_x ← decision ABS_MVD_GREATER0_FLAG
  some_y ← decision ABS_MVD_GREATER0_FLAG
  more_x ← abs_mvd_greater1_flag some_x
  more_y ← abs_mvd_greater1_flag some_y
  x ← difference some_x more_x
  y ← difference some_y more_y
  give (record { x = x; y = y })

-- a difference of 0
abbrev pub no_difference : Mv
no_difference = record { x = pos 0; y = pos 0 }

-- a difference that is coded, or 0
abbrev pub difference_where : Bool → Tree Mv
difference_where coded = when coded then mvd_coding else give no_difference

-- the vector in a list of so many active references
unfoldable pub vector_in : ℕ → Bool → Tree VectorSyntax
vector_in active coded = do
  index ← ref_idx active
  mvd ← difference_where coded
  mvp ← decision MVP_FLAG
  give (record { ref_idx = index; mvd = mvd; mvp = mvp })

-- a vector of a list that the unit is predicted from
unfoldable pub vector_where : Bool → ℕ → Bool → Tree (Option VectorSyntax)
vector_where there active coded =
    when there
    then (do
      vector ← vector_in active coded
      give (Some vector))
    else give None

-- whether MvdL1 is coded: with mvd_l1_zero_flag it is 0 where both lists are used
abbrev pub has_difference_1 : InterSyntax → ℕ → Bool
has_difference_1 inter lists = not (inter.mvd_l1_zero && lists == 2)

-- inter_pred_idc, and the vectors in the lists that it names
unfoldable pub vectors : InterSyntax → ℕ → Rectangle → Tree MotionSyntax
vectors inter depth block = do
  lists ← inter_pred_idc inter depth block
  first ← vector_where (not (lists == 1)) inter.active_0 true
  second ← vector_where (not (lists == 0)) inter.active_1 (has_difference_1 inter lists)
  give (Vectors first second)

-- what prediction_unit tells of a block of a coding unit that isn't skipped
unfoldable pub motion : InterSyntax → ℕ → Rectangle → Tree MotionSyntax
motion inter depth block = do
  is_merged ← decision MERGE_FLAG
  when is_merged then merged inter else vectors inter depth block

-- a prediction unit by its part and its motion
abbrev pub unit_of_part : Square → PartMode → ℕ → MotionSyntax → PredictionUnit
unit_of_part square mode part motion = record { unit = square; part_mode = mode; part = part; motion = motion }

-- it is added to what was read
abbrev pub with_part : Square → PartMode → ℕ → MotionSyntax → Ctu → Ctu
with_part square mode part motion ctu = added ctu (Prediction (unit_of_part square mode part motion))

-- prediction_unit of a part of a coding unit
unfoldable pub prediction_unit : InterSyntax → UnitStart → PartMode → ℕ → Ctu → Tree Ctu
prediction_unit inter start mode part ctu = do
  told ← motion inter start.depth (part_block start.square mode part)
  give (with_part start.square mode part told ctu)

-- how many prediction units a coding unit has
unfoldable pub part_count : PartMode → ℕ
part_count Whole = 1
part_count NxN = 4
part_count other = 2

-- the third and the fourth of four
unfoldable pub last_two : InterSyntax → UnitStart → PartMode → Ctu → Tree Ctu
last_two inter start mode ctu =
    when part_count mode == 4
    then (do
      third ← prediction_unit inter start mode 2 ctu
      prediction_unit inter start mode 3 third)
    else give ctu

-- the prediction units behind the first
unfoldable pub later_parts : InterSyntax → UnitStart → PartMode → Ctu → Tree Ctu
later_parts inter start mode ctu =
    when part_count mode == 1
    then give ctu
    else (do
      second ← prediction_unit inter start mode 1 ctu
      last_two inter start mode second)

-- whether a unit merges
abbrev pub is_merged : MotionSyntax → Bool
is_merged (Merge index) = true
is_merged (Vectors first second) = false

-- rqt_root_cbf, which is 1 in a coding unit of one merged prediction unit
abbrev pub rqt_root_cbf : PartMode → MotionSyntax → Tree Bool
rqt_root_cbf mode first = when part_count mode == 1 && is_merged first then give true else decision RQT_ROOT_CBF

-- interSplitFlag at the top of the transform tree (7.4.9.8)
abbrev pub splits_inter : InterSyntax → PartMode → Bool
splits_inter inter mode = inter.max_depth_inter == 0 && not (part_count mode == 1)
