-- coding_quadtree (7.3.8.4), coding_unit (7.3.8.5) and pcm_sample (7.3.8.7), and the coding tree unit.
use Rattle.std.specs.Prelude.{ℕ, zero, suc, ◌+◌, ◌*◌, ◌^◌, ◌==◌, ◌&&◌, not, nat_le, nat_lt, Bool, true, false}
use Rattle.std.specs.Prelude.{if◌then◌else◌}
use Rattle.hv_base.specs.declared.breach.Breach.TheVariants as breach
use Rattle.hv_base.specs.declared.fault.FaultKind.TheVariants as rule
use Rattle.std.specs.Bool.{beq}
use Rattle.ctu_records.specs.declared.item.Square.{Square}
use Rattle.ctu_records.specs.declared.item.CodingUnit.{CodingUnit}
use Rattle.ctu_records.specs.declared.item.Item.TheVariants.{Unit, Chroma, Pcm, Sample}
use Rattle.ctu_records.specs.declared.offset.Sao.{Sao}
use Rattle.ctu_records.specs.declared.prediction.PartMode.{PartMode}
use Rattle.ctu_records.specs.declared.prediction.PartMode.TheVariants.{Whole}
use Rattle.ctu_records.specs.Prediction.{part_block}
use Rattle.ctu_records.specs.Tree.{Ctu, added, with_sao, with_quantization, depth_left, depth_above}
use Rattle.spec_residuals.specs.SpecCabac.{SPLIT_CU_FLAG, CU_TRANSQUANT_BYPASS_FLAG, PART_MODE}
use Rattle.spec_residuals.specs.SpecCabac.{Tree, decision, terminate, pcm_start, sample, pcm_end, times}
use Rattle.spec_residuals.specs.SpecFormats.{◌>>=◌, give, wanted, when◌then◌else◌}
use Rattle.spec_slice_data.specs.declared.syntax.CtuSyntax.{CtuSyntax}
use Rattle.spec_slice_data.specs.declared.syntax.PcmSyntax.{PcmSyntax}
use Rattle.spec_slice_data.specs.declared.syntax.UnitStart.{UnitStart}
use Rattle.spec_slice_data.specs.declared.syntax.UnitSyntax.{UnitSyntax}
use Rattle.spec_slice_data.specs.declared.syntax.End.{End}
use Rattle.spec_slice_data.specs.declared.syntax.End.TheVariants as end
use Rattle.spec_slice_data.specs.Offset.{sao}
use Rattle.spec_slice_data.specs.Inter.{one_if, cu_skip_flag, pred_mode_flag, part_mode, merged, motion, with_part}
use Rattle.spec_slice_data.specs.Inter.{later_parts, rqt_root_cbf, splits_inter}
use Rattle.spec_slice_data.specs.Modes.{upper_left, upper_right, lower_left, lower_right, luma_modes, chroma_modes}
use Rattle.spec_slice_data.specs.Quantization.{grouped, unit_begun}
use Rattle.spec_slice_data.specs.Transform.{transform_tree}

-- how many of the places on the left and above are deeper (9.3.4.2.2)
unfoldable pub deeper : Ctu → ℕ → ℕ → ℕ → ℕ
deeper ctu depth x y = one_if (nat_lt depth (depth_left ctu x y)) + one_if (nat_lt depth (depth_above ctu x y))

-- split_cu_flag, or what it is taken to be (7.4.9.4)
unfoldable pub split_cu_flag : CtuSyntax → ℕ → Square → Ctu → Tree Bool
split_cu_flag syntax depth square ctu =
    when nat_lt syntax.log2_min_coding square.log2_size
    then (when nat_le (square.x + 2 ^ square.log2_size) syntax.right
    && nat_le (square.y + 2 ^ square.log2_size) syntax.lower
    then decision (SPLIT_CU_FLAG + deeper ctu depth square.x square.y)
    else give true)
    else give false

-- a sample of pulse code modulation
abbrev pub pcm_sample : ℕ → ℕ → Ctu → Tree Ctu
pcm_sample bits i ctu = do
  value ← sample bits
  give (added ctu (Sample value))

-- so many samples
abbrev pub pcm_samples : ℕ → ℕ → Ctu → Tree Ctu
pcm_samples bits count ctu = times 0 count (pcm_sample bits) ctu

-- the samples of a coding unit: luma, and half as many of chroma
unfoldable pub pcm_unit : PcmSyntax → Square → Ctu → Tree Ctu
pcm_unit pcm square ctu = do
  began ← pcm_start
  luma ← pcm_samples pcm.luma_bits (16 * 4 ^ square.log2_size) (added ctu (Pcm square))
  chroma ← pcm_samples pcm.chroma_bits (8 * 4 ^ square.log2_size) luma
  ended ← pcm_end
  give chroma

-- cu_transquant_bypass_flag
abbrev pub cu_transquant_bypass_flag : CtuSyntax → Tree Bool
cu_transquant_bypass_flag syntax =
    when syntax.transquant_bypass_enabled then decision CU_TRANSQUANT_BYPASS_FLAG else give false

-- whether an intra coding unit has four prediction blocks: part_mode, which only the least ones have
abbrev pub is_split : CtuSyntax → ℕ → Tree Bool
is_split syntax n =
    when n == syntax.log2_min_coding
    then (do
      whole ← decision PART_MODE
      give (not whole))
    else give false

-- pcm_flag
abbrev pub pcm_flag : PcmSyntax → Bool → ℕ → Tree Bool
pcm_flag pcm split n =
    when (pcm.enabled && not split) && (nat_le pcm.log2_least n && nat_le n pcm.log2_greatest) then terminate
    else give false

-- a coding unit as it stands in what was read
abbrev pub unit_at : UnitStart → Ctu → CodingUnit
unit_at start ctu = record {
  square = start.square;
  depth = start.depth;
  transquant_bypass = start.transquant_bypass;
  skipped = start.skipped;
  intra = start.intra;
  qp_predicted = ctu.quantization.predicted;
  qp = ctu.quantization.qp;
}

-- a coding unit begins
unfoldable pub begun_unit : UnitStart → Ctu → Ctu
begun_unit start ctu = added (with_quantization ctu (unit_begun ctu.quantization)) (Unit (unit_at start ctu))

-- the transform tree of a coding unit
abbrev pub unit_tree : CtuSyntax → UnitSyntax → Ctu → Tree Ctu
unit_tree syntax unit ctu =
    transform_tree syntax unit (record { cb = true; cr = true }) unit.square.log2_size 0 unit.square ctu

-- what the transform tree of an intra unit is read by
abbrev pub intra_syntax : UnitStart → Bool → ℕ → UnitSyntax
intra_syntax start split mode = record {
  square = start.square;
  transquant_bypass = start.transquant_bypass;
  intra = true;
  split = split;
  chroma_mode = mode;
}

-- an intra coding unit behind pcm_flag: its modes and its transform tree
unfoldable pub intra_unit : CtuSyntax → UnitStart → Bool → Ctu → Tree Ctu
intra_unit syntax start split ctu = do
  predicted ← luma_modes split start.square ctu
  mode ← chroma_modes start.square.x start.square.y predicted
  unit_tree syntax (intra_syntax start split mode) (added predicted (Chroma mode))

-- an intra coding unit behind pred_mode_flag
unfoldable pub intra_body : CtuSyntax → UnitStart → Ctu → Tree Ctu
intra_body syntax start ctu = do
  split ← is_split syntax start.square.log2_size
  pcm ← pcm_flag syntax.pcm split start.square.log2_size
  when pcm then pcm_unit syntax.pcm start.square ctu else intra_unit syntax start split ctu

-- a skipped coding unit: one merged prediction unit
unfoldable pub skipped_unit : CtuSyntax → UnitStart → Ctu → Tree Ctu
skipped_unit syntax start ctu = do
  told ← merged syntax.inter
  give (with_part start.square Whole 0 told ctu)

-- that of an inter unit
abbrev pub inter_syntax : CtuSyntax → UnitStart → PartMode → UnitSyntax
inter_syntax syntax start mode = record {
  square = start.square;
  transquant_bypass = start.transquant_bypass;
  intra = false;
  split = splits_inter syntax.inter mode;
  chroma_mode = 1;
}

-- the prediction units of an inter coding unit, and its transform tree if it has one
unfoldable pub parts_and_tree : CtuSyntax → UnitStart → PartMode → Ctu → Tree Ctu
parts_and_tree syntax start mode ctu = do
  first ← motion syntax.inter start.depth (part_block start.square mode 0)
  predicted ← later_parts syntax.inter start mode (with_part start.square mode 0 first ctu)
  coded ← rqt_root_cbf mode first
  when coded then unit_tree syntax (inter_syntax syntax start mode) predicted else give predicted

-- an inter coding unit that isn't skipped
unfoldable pub inter_unit : CtuSyntax → UnitStart → Ctu → Tree Ctu
inter_unit syntax start ctu = do
  mode ← part_mode syntax.inter (start.square.log2_size == syntax.log2_min_coding) start.square.log2_size
  parts_and_tree syntax start mode ctu

-- a coding unit behind pred_mode_flag
abbrev pub unit_body : CtuSyntax → UnitStart → Ctu → Tree Ctu
unit_body syntax start ctu =
    when start.intra then intra_body syntax start ctu
    else (when start.skipped then skipped_unit syntax start ctu else inter_unit syntax start ctu)

-- what a coding unit begins with
unfoldable pub unit_start : CtuSyntax → ℕ → Square → Ctu → Tree UnitStart
unit_start syntax depth square ctu = do
  transquant_bypass ← cu_transquant_bypass_flag syntax
  skipped ← cu_skip_flag syntax.inter square.x square.y ctu
  intra ← pred_mode_flag syntax.inter skipped
  give (record {
    square = square;
    depth = depth;
    transquant_bypass = transquant_bypass;
    skipped = skipped;
    intra = intra;
  })

-- coding_unit (7.3.8.5)
unfoldable pub coding_unit : CtuSyntax → ℕ → Square → Ctu → Tree Ctu
coding_unit syntax depth square ctu = do
  start ← unit_start syntax depth square ctu
  unit_body syntax start (begun_unit start ctu)

-- coding_quadtree: four quarters, or a coding unit (7.3.8.4)
abbrev pub split_or_unit : CtuSyntax → (Square → Ctu → Tree Ctu) → ℕ → Square → Ctu → Tree Ctu
split_or_unit syntax quarter depth square ctu = do
  split ← split_cu_flag syntax depth square ctu
  when split
      then (do
        first ← quarter (upper_left square) ctu
        second ← quarter (upper_right square) first
        third ← quarter (lower_left square) second
        quarter (lower_right square) third)
      else coding_unit syntax depth square ctu

-- a block, if the picture reaches it
abbrev pub where_reached : CtuSyntax → Square → Ctu → Tree Ctu → Tree Ctu
where_reached syntax square ctu tree =
    when nat_lt square.x syntax.right && nat_lt square.y syntax.lower then tree else give ctu

-- a square of 2^n places on a side
unfoldable pub coding_quadtree : CtuSyntax → ℕ → ℕ → Square → Ctu → Tree Ctu
coding_quadtree syntax zero depth square ctu =
    where_reached syntax square ctu (coding_unit syntax depth square (grouped syntax square ctu))
coding_quadtree syntax (suc n) depth square ctu =
    where_reached syntax square ctu
    (split_or_unit syntax (coding_quadtree syntax n (depth + 1)) depth square (grouped syntax square ctu))

-- the square of a coding tree unit
abbrev pub whole_unit : ℕ → Square
whole_unit size = record { x = 0; y = 0; log2_size = size }

-- coding_tree_unit (7.3.8.2), by the sample adaptive offset of the units on the left and above
unfoldable pub coding_tree_unit : CtuSyntax → Sao → Sao → Ctu → Tree Ctu
coding_tree_unit syntax left above ctu = do
  offsets ← sao syntax left above
  coding_quadtree syntax ctu.size 0 (whole_unit ctu.size) (with_sao ctu offsets)

-- end_of_slice_segment_flag, which is 1 behind the segment's last unit alone; and end_of_subset_one_bit, where entropy
-- coding sync begins a substream with the next unit (7.3.8.1)
unfoldable pub unit_end : Bool → Bool → Tree End
unit_end is_last ends_subset = do
  ended ← terminate
  right ← wanted (beq ended is_last) (breach.Fault rule.SliceEnd)
  when ended
      then give end.Segment
      else (when ends_subset
      then (do
        one ← terminate
        held ← wanted one (breach.Fault rule.SubsetEnd)
        give end.Subset)
      else give end.More)

-- a unit and what follows it
unfoldable pub unit_and_end : CtuSyntax → Sao → Sao → Bool → Bool → Ctu → Tree (Ctu × End)
unit_and_end syntax left above is_last ends_subset ctu = do
  read ← coding_tree_unit syntax left above ctu
  follows ← unit_end is_last ends_subset
  give (read, follows)
