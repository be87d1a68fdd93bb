-- The bins of P and B pictures (7.3.8.4 to 7.3.8.6, 7.3.8.9), row by row.
use Rattle.std.specs.Prelude.{ℕ, zero, suc, ◌+◌, ◌-◌, ◌*◌, ◌%◌, ◌==◌, not, nat_le, nat_lt, Bool, true, false}
use Rattle.std.specs.Prelude.{List, [], ◌∷◌, ◌++◌, map, replicate, slice_index_or, get_or, Option, Some, None, pos}
use Rattle.std.specs.Prelude.{if◌then◌else◌}
use Rattle.std.specs.List.{count_by}
use Rattle.spec_bits.specs.Spelling.{u_bits}
use Rattle.spec_cabac.specs.Bins.{Decision, Bypass, Terminate}
use Rattle.spec_cabac.specs.Contexts.{first_contexts}
use Rattle.spec_cabac.specs.declared.init_values.TheConstants.{SPLIT_CU_FLAG, CU_SKIP_FLAG, PRED_MODE_FLAG, PART_MODE}
use Rattle.spec_cabac.specs.declared.init_values.TheConstants.{MERGE_FLAG, INTER_PRED_IDC, ABS_MVD_GREATER0_FLAG}
use Rattle.spec_cabac.specs.declared.init_values.TheConstants.{ABS_MVD_GREATER1_FLAG, MVP_FLAG, RQT_ROOT_CBF}
use Rattle.cabac_writer.specs.Pulses.{contexts_behind}
use Rattle.spec_made.specs.declared.units.InterUnit.{InterUnit}
use Rattle.spec_made.specs.declared.units.Shift.{Shift}
use Rattle.spec_made.specs.declared.units.Motion.{Motion}
use Rattle.spec_made.specs.Draws.{no_unit}
use Rattle.spec_made.specs.Written.{Bins, section_bytes}

abbrev pub one_if : Bool → ℕ
one_if b = if b then 1 else 0

-- the units on the left and above
abbrev pub left_of : List InterUnit → ℕ → InterUnit
left_of units i = if i % 8 == 0 then no_unit else slice_index_or units (i - 1) no_unit

abbrev pub above_of : List InterUnit → ℕ → InterUnit
above_of units i = if nat_lt i 8 then no_unit else slice_index_or units (i - 8) no_unit

-- whether the coding unit of a quarter is skipped
abbrev pub is_skipped : InterUnit → ℕ → Bool
is_skipped u quarter = get_or u.skips (if u.split then quarter else 0) false

-- the absolute value of a difference of 2 * d - 200 samples, in quarters, and its binary logarithm
abbrev pub size_of : ℕ → ℕ
size_of d = 8 * ((100 - d) + (d - 100))

abbrev pub log_of : ℕ → ℕ
log_of size = count_by (λ t. nat_le t size) (2 ∷ 4 ∷ 8 ∷ 16 ∷ 32 ∷ 64 ∷ 128 ∷ 256 ∷ 512 ∷ [])

-- bypass bins
abbrev pub bypasses : List Bool → Bins
bypasses bins = map (λ bin. (Bypass, bin)) bins

-- abs_mvd_minus2, by EG1, and mvd_sign_flag, where the difference isn't 0: as many bins of 1 as its size has binary
-- digits but two, a 0, all digits but the greatest, and the sign
unfoldable pub size_words : ℕ → Bins
size_words d =
    let log = log_of (size_of d) in
    bypasses (replicate (log - 1) true) ++ ((Bypass, false) ∷ bypasses (u_bits log (size_of d)))
    ++ ((Bypass, nat_lt d 100) ∷ [])

abbrev pub moves : ℕ → Bool
moves d = not (d == 100)

abbrev pub where_moves : ℕ → Bins → Bins
where_moves d words = if moves d then words else []

-- mvd_coding, and mvp_flag, which is 0
unfoldable pub vector_words : Shift → Bins
vector_words s =
    (Decision ABS_MVD_GREATER0_FLAG, moves s.across) ∷ (Decision ABS_MVD_GREATER0_FLAG, moves s.down)
    ∷ (where_moves s.across ((Decision ABS_MVD_GREATER1_FLAG, true) ∷ [])
    ++ (where_moves s.down ((Decision ABS_MVD_GREATER1_FLAG, true) ∷ [])
    ++ (where_moves s.across (size_words s.across)
    ++ (where_moves s.down (size_words s.down) ++ (Decision MVP_FLAG, false) ∷ []))))

-- inter_pred_idc in a B picture: both lists, by the depth of the coding unit
abbrev pub list_words : ℕ → Option Shift → Bins
list_words depth None = []
list_words depth (Some s) = (Decision (INTER_PRED_IDC + depth), true) ∷ []

abbrev pub second_words : Option Shift → Bins
second_words None = []
second_words (Some s) = vector_words s

-- a coding unit that isn't skipped, behind cu_skip_flag
unfoldable pub coded_words : ℕ → Motion → Bins
coded_words depth m =
    (Decision PRED_MODE_FLAG, false) ∷ (Decision PART_MODE, true) ∷ (Decision MERGE_FLAG, false)
    ∷ (list_words depth m.second
    ++ (vector_words m.first ++ (second_words m.second ++ (Decision RQT_ROOT_CBF, false) ∷ [])))

-- a coding unit, by how many of the places on the left and above are skipped
unfoldable pub part_words : ℕ → ℕ → Bool → Motion → Bins
part_words depth beside skipped m =
    (Decision (CU_SKIP_FLAG + beside), skipped) ∷ (if skipped then [] else coded_words depth m)

-- the vectors of the first coding unit of a picture are differences from 0, all others are their predictors
abbrev pub still : Shift
still = record { across = 100; down = 100 }

abbrev pub still_where : Option Shift → Option Shift
still_where None = None
still_where (Some s) = Some still

abbrev pub later_motion : Motion → Motion
later_motion m = record { first = still; second = still_where m.second }

abbrev pub beside : Bool → Bool → ℕ
beside left above = one_if left + one_if above

-- the four coding units of a unit, beside those on the left and above, of which the first has a motion of its own
abbrev pub quarter_words : Motion → Motion → InterUnit → InterUnit → InterUnit → Bins
quarter_words first later left above u =
    part_words 1 (beside (is_skipped left 1) (is_skipped above 2)) (is_skipped u 0) first
    ++ (part_words 1 (beside (is_skipped u 0) (is_skipped above 3)) (is_skipped u 1) later
    ++ (part_words 1 (beside (is_skipped left 3) (is_skipped u 0)) (is_skipped u 2) later
    ++ part_words 1 (beside (is_skipped u 2) (is_skipped u 1)) (is_skipped u 3) later))

-- a coding tree unit
unfoldable pub unit_words : Motion → Motion → InterUnit → InterUnit → InterUnit → Bins
unit_words first later left above u =
    (Decision (SPLIT_CU_FLAG + beside left.split above.split), u.split)
    ∷ (if u.split
    then quarter_words first later left above u
    else part_words 0 (beside (is_skipped left 1) (is_skipped above 2)) (is_skipped u 0) first)

-- end_of_slice_segment_flag, which is 1 behind the last unit alone, where it isn't the end of a substream
abbrev pub end_words : ℕ → Bins
end_words i = if i == 47 then [] else (Terminate, false) ∷ []

-- the unit of a number, and what follows it
unfoldable pub words_at : Motion → List InterUnit → ℕ → Bins
words_at m units i =
    unit_words (if i == 0 then m else later_motion m) (later_motion m) (left_of units i) (above_of units i)
    (slice_index_or units i no_unit)
    ++ end_words i

-- so many units from one on
unfoldable pub words_from : Motion → List InterUnit → ℕ → ℕ → Bins
words_from m units i zero = []
words_from m units i (suc n) = words_at m units i ++ words_from m units (i + 1) n

-- the contexts before each row: the first ones, or those behind the second unit of the row above (9.3.1)
unfoldable pub contexts_at : List ℕ → Motion → List InterUnit → ℕ → List ℕ
contexts_at first m units zero = first
contexts_at first m units (suc r) = contexts_behind (words_from m units (8 * r) 2) (contexts_at first m units r)

-- initType of a P picture and of a B picture
abbrev pub init_type : Option Shift → ℕ
init_type None = 1
init_type (Some s) = 2

abbrev pub contexts_of_motion : Motion → List ℕ
contexts_of_motion m = first_contexts (pos 26) (init_type m.second)

-- the bytes of a row: its substream
unfoldable pub inter_row : Motion → List InterUnit → ℕ → List ℕ
inter_row m units r =
    section_bytes (words_from m units (8 * r) 8) (contexts_at (contexts_of_motion m) m units r)
