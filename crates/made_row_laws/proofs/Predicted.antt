-- Coding units of P and B pictures are spelled by what is written of them.
use Rattle.std.proofs.Common.{◌≡◌, ℕ, ◌+◌, ◌^◌, Bool, true, false, [], ◌∷◌, ◌++◌, Option, Some, None}
use Rattle.std.proofs.Common.{sym, ap, ◌∙◌, append_assoc, subst}
use Rattle.std.specs.Prelude.{◌==◌, is_some}
use Rattle.ctu_records.specs.declared.item.Square.{Square}
use Rattle.ctu_records.specs.declared.prediction.MotionSyntax.TheVariants.{Merge, Vectors}
use Rattle.ctu_records.specs.declared.prediction.PartMode.TheVariants.{Whole}
use Rattle.ctu_records.specs.declared.prediction.Rectangle.{Rectangle}
use Rattle.ctu_records.specs.Prediction.{part_of}
use Rattle.ctu_records.specs.Tree.{Ctu}
use Rattle.spec_formats.specs.Format.{Word}
use Rattle.spec_cabac.specs.Bins.{Bin, BinValue, Tree, Decision, unary}
use Rattle.spec_cabac.specs.declared.init_values.TheConstants.{CU_SKIP_FLAG, PRED_MODE_FLAG, PART_MODE}
use Rattle.spec_cabac.specs.declared.init_values.TheConstants.{MERGE_FLAG, INTER_PRED_IDC, RQT_ROOT_CBF}
use Rattle.spec_slice_data.specs.declared.syntax.CtuSyntax.{CtuSyntax}
use Rattle.spec_slice_data.specs.declared.syntax.InterSyntax.{InterSyntax}
use Rattle.spec_slice_data.specs.declared.syntax.UnitStart.{UnitStart}
use Rattle.spec_slice_data.specs.Inter.{skipped_beside, inter_pred_idc, vectors, vector_where, motion, part_mode}
use Rattle.spec_slice_data.specs.Inter.{part_count, later_parts, with_part}
use Rattle.spec_slice_data.specs.Tree.{begun_unit, unit_start, skipped_unit, parts_and_tree}
use Rattle.spec_slice_data.specs.Tree.{inter_unit, coding_unit}
use Rattle.spec_made.specs.declared.units.Motion.{Motion}
use Rattle.spec_made.specs.declared.units.Shift.{Shift}
use Rattle.spec_made.specs.Written.{Bins}
use Rattle.spec_made.specs.InterRows.{vector_words, list_words, second_words, coded_words, part_words}
use Rattle.made_row_laws.specs.Shapes.{made_inter}
use Rattle.made_row_laws.specs.Units.{vector_of, second_vector, motion_coded}
use Rattle.made_row_laws.specs.Units.{IsShift, IsSecond, IsMotion}
use Rattle.made_row_laws.proofs.Taking.{Takes, gives, asks, then_takes}
use Rattle.made_row_laws.proofs.Vectors.{vector_taken}

-- what a unit is read by, where so much of the picture is beside it
abbrev pub placed : InterSyntax → Bool → Bool → ℕ → ℕ → CtuSyntax
placed inter has_left has_above right lower = record {
  log2_min_coding = 1;
  log2_min_transform = 0;
  log2_max_transform = 1;
  max_depth_intra = 0;
  log2_group = 2;
  luma_depth = 8;
  chroma_depth = 8;
  qp_offset = 0;
  cu_qp_delta_enabled = false;
  transquant_bypass_enabled = false;
  transform_skip_enabled = false;
  sign_data_hiding_enabled = false;
  pcm = record { enabled = true; log2_least = 1; log2_greatest = 2; luma_bits = 8; chroma_bits = 8 };
  inter = inter;
  sao_luma = false;
  sao_chroma = false;
  has_left = has_left;
  has_above = has_above;
  right = right;
  lower = lower;
}

-- ---- vectors

both_taken : (depth : ℕ) (block : Rectangle) (rest : Bins) → (block.width + block.height == 3) ≡ false
    → Takes (inter_pred_idc (made_inter true true) depth block) 2 ((Decision (INTER_PRED_IDC + depth), true) ∷ rest)
    rest
unfolding inter_pred_idc
both_taken depth block rest large =
    rw large (then_takes (asks (Decision (INTER_PRED_IDC + depth)) true rest) (gives 2 rest))

vectors_taken : (depth : ℕ) (block : Rectangle) (first : Shift) (second : Option Shift) (rest : Bins)
    → (block.width + block.height == 3) ≡ false → IsShift first → IsSecond second
    → Takes (vectors (made_inter true (is_some second)) depth block)
    (Vectors (Some (vector_of first)) (second_vector second))
    (list_words depth second ++ (vector_words first ++ (second_words second ++ rest))) rest
unfolding vectors vector_where inter_pred_idc
vectors_taken depth block first None rest large small other =
    then_takes (gives 0 (vector_words first ++ rest))
    (then_takes (then_takes (vector_taken first rest small.0 small.1) (gives (Some (vector_of first)) rest))
    (then_takes (gives None rest) (gives (Vectors (Some (vector_of first)) None) rest)))
vectors_taken depth block first (Some s) rest large small other =
    then_takes (both_taken depth block (vector_words first ++ (vector_words s ++ rest)) large)
    (then_takes
    (then_takes (vector_taken first (vector_words s ++ rest) small.0 small.1)
    (gives (Some (vector_of first)) (vector_words s ++ rest)))
    (then_takes (then_takes (vector_taken s rest other.0 other.1) (gives (Some (vector_of s)) rest))
    (gives (Vectors (Some (vector_of first)) (Some (vector_of s))) rest)))

-- ---- coding units

abbrev pub start_of : ℕ → Square → Bool → UnitStart
start_of depth square skipped = record {
  square = square;
  depth = depth;
  transquant_bypass = false;
  skipped = skipped;
  intra = false;
}

-- a coding unit behind what was read
abbrev pub part_behind : ℕ → Square → Bool → Motion → Ctu → Ctu
part_behind depth square skipped m ctu =
    with_part square Whole 0 (motion_coded skipped m) (begun_unit (start_of depth square skipped) ctu)

pub four_joined : (a b c d rest : Bins) → (a ++ (b ++ (c ++ d))) ++ rest ≡ a ++ (b ++ (c ++ (d ++ rest)))
four_joined a b c d rest =
    append_assoc a (b ++ (c ++ d)) rest
    ∙ ap (λ l. a ++ l) (append_assoc b (c ++ d) rest ∙ ap (λ l. b ++ l) (append_assoc c d rest))

coded_taken : (has_left has_above : Bool) (right lower depth : ℕ) (square : Square) (ctu : Ctu) (m : Motion)
    (rest : Bins)
    → (2 ^ square.log2_size + 2 ^ square.log2_size == 3) ≡ false → IsMotion m
    → Takes (coding_unit (placed (made_inter true (is_some m.second)) has_left has_above right lower) depth square ctu)
    (part_behind depth square false m ctu)
    (part_words depth (skipped_beside ctu square.x square.y) false m ++ rest) rest
unfolding coding_unit unit_start inter_unit part_mode parts_and_tree motion later_parts part_count part_of part_words
    coded_words
coded_taken has_left has_above right lower depth square ctu m rest large small =
    let syntax : CtuSyntax = placed (made_inter true (is_some m.second)) has_left has_above right lower in
    let format : Tree Ctu = coding_unit syntax depth square ctu in
    let root : Bins = (Decision RQT_ROOT_CBF, false) ∷ [] in
    let skip : Word Bin BinValue = (Decision (CU_SKIP_FLAG + skipped_beside ctu square.x square.y), false) in
    let vectors : Bins =
    list_words depth m.second ++ (vector_words m.first ++ (second_words m.second ++ (root ++ rest))) in
    let start : UnitStart = start_of depth square false in
    subst (λ (l : Bins). Takes format (part_behind depth square false m ctu)
    (skip ∷ (Decision PRED_MODE_FLAG, false) ∷ (Decision PART_MODE, true) ∷ (Decision MERGE_FLAG, false) ∷ l) rest)
    (sym (four_joined (list_words depth m.second) (vector_words m.first) (second_words m.second) root rest))
    (then_takes
    (then_takes (gives false (skip ∷ (Decision PRED_MODE_FLAG, false) ∷ (Decision PART_MODE, true)
    ∷ (Decision MERGE_FLAG, false) ∷ vectors))
    (then_takes (asks (Decision (CU_SKIP_FLAG + skipped_beside ctu square.x square.y)) false _)
    (then_takes (asks (Decision PRED_MODE_FLAG) false _) (gives start _))))
    (then_takes (then_takes (asks (Decision PART_MODE) true _) (gives Whole _))
    (then_takes
    (then_takes (asks (Decision MERGE_FLAG) false vectors)
    (vectors_taken depth _ m.first m.second (root ++ rest) large small.0 small.1))
    (then_takes (gives (part_behind depth square false m ctu) (root ++ rest))
    (then_takes (asks (Decision RQT_ROOT_CBF) false rest) (gives (part_behind depth square false m ctu) rest))))))

skipped_taken : (is_b has_left has_above : Bool) (right lower depth : ℕ) (square : Square) (ctu : Ctu) (m : Motion)
    (rest : Bins)
    → Takes (coding_unit (placed (made_inter true is_b) has_left has_above right lower) depth square ctu)
    (part_behind depth square true m ctu)
    (part_words depth (skipped_beside ctu square.x square.y) true m ++ rest) rest
unfolding coding_unit unit_start skipped_unit unary part_words
skipped_taken is_b has_left has_above right lower depth square ctu m rest =
    let skip : Word Bin BinValue = (Decision (CU_SKIP_FLAG + skipped_beside ctu square.x square.y), true) in
    then_takes
    (then_takes (gives false (skip ∷ rest))
    (then_takes (asks (Decision (CU_SKIP_FLAG + skipped_beside ctu square.x square.y)) true rest)
    (then_takes (gives false rest) (gives (start_of depth square true) rest))))
    (then_takes (then_takes (gives 0 rest) (gives (Merge 0) rest)) (gives (part_behind depth square true m ctu) rest))

pub part_taken : (has_left has_above : Bool) (right lower depth : ℕ) (square : Square) (ctu : Ctu) (skipped : Bool)
    (m : Motion) (rest : Bins)
    → (2 ^ square.log2_size + 2 ^ square.log2_size == 3) ≡ false → IsMotion m
    → Takes (coding_unit (placed (made_inter true (is_some m.second)) has_left has_above right lower) depth square ctu)
    (part_behind depth square skipped m ctu)
    (part_words depth (skipped_beside ctu square.x square.y) skipped m ++ rest) rest
part_taken has_left has_above right lower depth square ctu true m rest large small =
    skipped_taken (is_some m.second) has_left has_above right lower depth square ctu m rest
part_taken has_left has_above right lower depth square ctu false m rest large small =
    coded_taken has_left has_above right lower depth square ctu m rest large small
