-- Few rules are broken by a coding tree unit, where neither its segment nor its substream ends with it.
use Rattle.std.proofs.Common.{ℕ, zero, suc, ◌+◌, Bool}
use Rattle.std.proofs.Common.{Option, Some, None}
use Rattle.spec_cabac.specs.Bins.{Tree, PcmStart, PcmEnd, Sample, Terminate}
use Rattle.ctu_records.specs.declared.item.Square.{Square}
use Rattle.ctu_records.specs.declared.offset.Sao.{Sao}
use Rattle.ctu_records.specs.declared.offset.ComponentOffset.{ComponentOffset}
use Rattle.ctu_records.specs.declared.prediction.PartMode.{PartMode}
use Rattle.ctu_records.specs.declared.prediction.MotionSyntax.{MotionSyntax}
use Rattle.ctu_records.specs.declared.prediction.Rectangle.{Rectangle}
use Rattle.ctu_records.specs.Tree.{Ctu}
use Rattle.spec_slice_data.specs.declared.syntax.CtuSyntax.{CtuSyntax}
use Rattle.spec_slice_data.specs.declared.syntax.InterSyntax.{InterSyntax}
use Rattle.spec_slice_data.specs.declared.syntax.PcmSyntax.{PcmSyntax}
use Rattle.spec_slice_data.specs.declared.syntax.UnitSyntax.{UnitSyntax}
use Rattle.spec_slice_data.specs.declared.syntax.ChromaFlags.{ChromaFlags}
use Rattle.spec_slice_data.specs.declared.syntax.TransformBlock.{TransformBlock}
use Rattle.spec_slice_data.specs.Offset.{sao_offset_abs, band_offset, band, sao_type_idx, class_where, offsets}
use Rattle.spec_slice_data.specs.Offset.{component, own_component, like_component, own_where, own_sao}
use Rattle.spec_slice_data.specs.Offset.{sao_or_above, merged_or_own, sao}
use Rattle.spec_slice_data.specs.declared.modes.Candidates.{Candidates}
use Rattle.spec_slice_data.specs.Modes.{luma_mode, luma_block, luma_blocks, luma_quarters}
use Rattle.spec_slice_data.specs.Modes.{luma_modes, intra_chroma_pred_mode, chroma_modes}
use Rattle.spec_slice_data.specs.Quantization.{cu_qp_delta_abs, cu_qp_delta, delta_where, delta_bin}
use Rattle.spec_slice_data.specs.Residual.{coded_block}
use Rattle.spec_slice_data.specs.Transform.{split_transform_flag, chroma_flags, block_where, chroma_blocks}
use Rattle.spec_slice_data.specs.Transform.{chroma_of, transform_blocks, cbf_luma_at, transform_unit}
use Rattle.spec_slice_data.specs.Transform.{split_or_blocks, transform_tree}
use Rattle.spec_slice_data.specs.Inter.{two_parts, beside_or_four, beside_parts, more_parts}
use Rattle.spec_slice_data.specs.Inter.{part_mode, merge_bin, merged, reference_bin, one_list}
use Rattle.spec_slice_data.specs.Inter.{inter_pred_idc, difference_size, some_difference, difference}
use Rattle.spec_slice_data.specs.Inter.{abs_mvd_greater1_flag, mvd_coding, vector_in, vector_where}
use Rattle.spec_slice_data.specs.Inter.{vectors, motion, prediction_unit, last_two, later_parts, rqt_root_cbf}
use Rattle.spec_slice_data.specs.declared.syntax.UnitStart.{UnitStart}
use Rattle.spec_slice_data.specs.Tree.{split_cu_flag, pcm_sample, pcm_samples, pcm_unit}
use Rattle.spec_slice_data.specs.Tree.{is_split, intra_unit, intra_body, skipped_unit}
use Rattle.spec_slice_data.specs.Tree.{parts_and_tree, inter_unit, unit_body, unit_start, coding_unit, split_or_unit}
use Rattle.spec_slice_data.specs.Tree.{coding_quadtree, coding_tree_unit, unit_end, unit_and_end}
use Rattle.breach_laws.proofs.Breaking.{Breaks, give_breaks, then_breaks, when_breaks, wanted_breaks, decision_breaks}
use Rattle.breach_laws.proofs.Breaking.{bypass_breaks, fixed_breaks, truncated_breaks, exp_golomb_breaks, one_breaks}
use Rattle.breach_laws.proofs.Breaking.{qp_rule, slice_end_rule, subset_end_rule, times_breaks, vector_rule}
use Rattle.breach_laws.proofs.Levels.{residual_breaks}

-- sample adaptive offset
size_breaks : (depth : ℕ) → Breaks (sao_offset_abs depth)
unfolding sao_offset_abs
size_breaks depth = truncated_breaks _ _ (λ i. bypass_breaks)

band_offset_breaks : (size : ℕ) → Breaks (band_offset size)
unfolding band_offset
band_offset_breaks size = then_breaks (when_breaks _ (give_breaks _) bypass_breaks) (λ negative. give_breaks _)

band_breaks : (a b c d : ℕ) → Breaks (band a b c d)
unfolding band
band_breaks a b c d =
    then_breaks (band_offset_breaks a) (λ p. then_breaks (band_offset_breaks b) (λ q.
    then_breaks (band_offset_breaks c) (λ r.
    then_breaks (band_offset_breaks d) (λ s. then_breaks (fixed_breaks _ _) (λ position. give_breaks _)))))

type_breaks : Breaks sao_type_idx
unfolding sao_type_idx
type_breaks =
    then_breaks (decision_breaks _) (λ applied.
    when_breaks applied (then_breaks bypass_breaks (λ is_edge. give_breaks _))
    (give_breaks _))

class_breaks : (shared : Option ℕ) → Breaks (class_where shared)
class_breaks None = fixed_breaks _ _
class_breaks (Some class) = give_breaks _

offsets_break : (depth kind : ℕ) (shared : Option ℕ) → Breaks (offsets depth kind shared)
unfolding offsets
offsets_break depth kind shared =
    then_breaks (size_breaks depth) (λ a. then_breaks (size_breaks depth) (λ b. then_breaks (size_breaks depth) (λ c.
    then_breaks (size_breaks depth) (λ d. when_breaks _ (band_breaks a b c d)
    (then_breaks (class_breaks shared) (λ class. give_breaks _))))))

component_breaks : (depth kind : ℕ) (shared : Option ℕ) → Breaks (component depth kind shared)
component_breaks depth kind shared = when_breaks _ (give_breaks _) (offsets_break depth kind shared)

own_component_breaks : (depth : ℕ) → Breaks (own_component depth)
unfolding own_component
own_component_breaks depth = then_breaks type_breaks (λ kind. component_breaks depth kind None)

like_component_breaks : (depth : ℕ) (cb : ComponentOffset) → Breaks (like_component depth cb)
unfolding like_component
like_component_breaks depth cb = component_breaks depth _ _

own_where_breaks : (depth : ℕ) (applied : Bool) → Breaks (own_where depth applied)
own_where_breaks depth applied = when_breaks applied (own_component_breaks depth) (give_breaks _)

own_sao_breaks : (syntax : CtuSyntax) → Breaks (own_sao syntax)
unfolding own_sao
own_sao_breaks syntax =
    then_breaks (own_where_breaks _ _) (λ luma. then_breaks (own_where_breaks _ _) (λ cb.
    then_breaks (when_breaks _ (like_component_breaks _ cb) (give_breaks _)) (λ cr. give_breaks _)))

above_breaks : (syntax : CtuSyntax) (above : Sao) → Breaks (sao_or_above syntax above)
above_breaks syntax above =
    then_breaks (when_breaks _ (decision_breaks _) (give_breaks _)) (λ merged. when_breaks merged (give_breaks _)
    (own_sao_breaks syntax))

own_breaks : (syntax : CtuSyntax) (left above : Sao) → Breaks (merged_or_own syntax left above)
own_breaks syntax left above =
    then_breaks (when_breaks _ (decision_breaks _) (give_breaks _)) (λ merged. when_breaks merged (give_breaks _)
    (above_breaks syntax above))

sao_breaks : (syntax : CtuSyntax) (left above : Sao) → Breaks (sao syntax left above)
unfolding sao
sao_breaks syntax left above =
    when_breaks _ (own_breaks syntax left above) (when_breaks _ (own_breaks syntax left above) (give_breaks _))

-- intra modes
mode_breaks : (most_probable : Bool) (c : Candidates) → Breaks (luma_mode most_probable c)
unfolding luma_mode
mode_breaks most_probable c =
    when_breaks most_probable (then_breaks (truncated_breaks _ _ (λ i. bypass_breaks)) (λ index. give_breaks _))
    (then_breaks (fixed_breaks _ _) (λ rem. give_breaks _))

block_breaks : (square : Square) (most_probable : Bool) (ctu : Ctu) → Breaks (luma_block square most_probable ctu)
unfolding luma_block
block_breaks square most_probable ctu = then_breaks (mode_breaks most_probable _) (λ mode. give_breaks _)

blocks_break : (square : Square) (p q r s : Bool) (ctu : Ctu) → Breaks (luma_blocks square p q r s ctu)
unfolding luma_blocks
blocks_break square p q r s ctu =
    then_breaks (block_breaks _ p ctu) (λ a. then_breaks (block_breaks _ q a) (λ b. then_breaks (block_breaks _ r b)
    (λ c. block_breaks _ s c)))

quarters_break : (square : Square) (ctu : Ctu) → Breaks (luma_quarters square ctu)
unfolding luma_quarters
quarters_break square ctu =
    then_breaks (decision_breaks _) (λ p. then_breaks (decision_breaks _) (λ q. then_breaks (decision_breaks _) (λ r.
    then_breaks (decision_breaks _) (λ s. blocks_break square p q r s ctu))))

modes_break : (split : Bool) (square : Square) (ctu : Ctu) → Breaks (luma_modes split square ctu)
modes_break split square ctu =
    when_breaks split (quarters_break square ctu) (then_breaks (decision_breaks _) (λ most_probable.
    block_breaks square most_probable ctu))

chroma_breaks : (x y : ℕ) (ctu : Ctu) → Breaks (chroma_modes x y ctu)
unfolding chroma_modes intra_chroma_pred_mode
chroma_breaks x y ctu =
    then_breaks (then_breaks (decision_breaks _) (λ listed. when_breaks listed (fixed_breaks _ _) (give_breaks _)))
    (λ choice. give_breaks _)

-- quantization
delta_bin_breaks : (i : ℕ) → Breaks (delta_bin i)
delta_bin_breaks i = decision_breaks _

delta_abs_breaks : Breaks cu_qp_delta_abs
unfolding cu_qp_delta_abs
delta_abs_breaks =
    then_breaks (truncated_breaks _ _ delta_bin_breaks) (λ prefix. when_breaks _
    (then_breaks (exp_golomb_breaks _ _ qp_rule) (λ suffix. give_breaks _)) (give_breaks _))

delta_breaks : (offset : ℕ) → Breaks (cu_qp_delta offset)
unfolding cu_qp_delta
delta_breaks offset =
    then_breaks delta_abs_breaks (λ size. then_breaks (when_breaks _ (give_breaks _) bypass_breaks) (λ negative.
    then_breaks (wanted_breaks _ _ qp_rule) (λ held. give_breaks _)))

delta_where_breaks : (syntax : CtuSyntax) (square : Square) (there : Bool) (ctu : Ctu)
    → Breaks (delta_where syntax square there ctu)
unfolding delta_where
delta_where_breaks syntax square there ctu =
    when_breaks there (then_breaks (delta_breaks _) (λ delta. give_breaks _)) (give_breaks _)

-- transform trees
module _ (syntax : CtuSyntax) (unit : UnitSyntax) where
  coded_breaks : (block : TransformBlock) (ctu : Ctu) → Breaks (coded_block syntax unit block ctu)
  unfolding coded_block
  coded_breaks block ctu = then_breaks (residual_breaks _) (λ residual. give_breaks _)

  where_breaks : (coded : Bool) (block : TransformBlock) (ctu : Ctu) → Breaks (block_where syntax unit coded block ctu)
  where_breaks coded block ctu = when_breaks coded (coded_breaks block ctu) (give_breaks _)

  chroma_blocks_break : (flags : ChromaFlags) (square : Square) (ctu : Ctu)
      → Breaks (chroma_blocks syntax unit flags square ctu)
  unfolding chroma_blocks
  chroma_blocks_break flags square ctu = then_breaks (where_breaks _ _ ctu) (λ with_cb. where_breaks _ _ with_cb)

  chroma_of_breaks : (flags : ChromaFlags) (square : Square) (ctu : Ctu)
      → Breaks (chroma_of syntax unit flags square ctu)
  unfolding chroma_of
  chroma_of_breaks flags square ctu =
      when_breaks _ (when_breaks _ (chroma_blocks_break flags _ ctu) (give_breaks _))
      (chroma_blocks_break flags square ctu)

  transform_blocks_break : (cbf : Bool) (flags : ChromaFlags) (square : Square) (ctu : Ctu)
      → Breaks (transform_blocks syntax unit cbf flags square ctu)
  unfolding transform_blocks
  transform_blocks_break cbf flags square ctu =
      then_breaks (delta_where_breaks syntax _ _ ctu) (λ quantized. then_breaks (where_breaks cbf _ quantized)
      (λ with_luma. chroma_of_breaks flags square with_luma))

  cbf_breaks : (flags : ChromaFlags) (depth : ℕ) → Breaks (cbf_luma_at unit flags depth)
  unfolding cbf_luma_at
  cbf_breaks flags depth = when_breaks _ (when_breaks _ (decision_breaks _) (decision_breaks _)) (give_breaks _)

  transform_unit_breaks : (flags : ChromaFlags) (depth : ℕ) (square : Square) (ctu : Ctu)
      → Breaks (transform_unit syntax unit flags depth square ctu)
  unfolding transform_unit
  transform_unit_breaks flags depth square ctu =
      then_breaks (cbf_breaks flags depth) (λ coded. transform_blocks_break coded flags square _)

  split_breaks : (n depth : ℕ) → Breaks (split_transform_flag syntax unit n depth)
  unfolding split_transform_flag
  split_breaks n depth = when_breaks _ (decision_breaks _) (give_breaks _)

  flags_break : (above : ChromaFlags) (depth : ℕ) → Breaks (chroma_flags above depth)
  unfolding chroma_flags
  flags_break above depth =
      then_breaks (when_breaks _ (decision_breaks _) (give_breaks _)) (λ cb.
      then_breaks (when_breaks _ (decision_breaks _) (give_breaks _)) (λ cr. give_breaks _))

  node_breaks : (quarter : ChromaFlags → Square → Ctu → Tree Ctu)
      → ((flags : ChromaFlags) (square : Square) (ctu : Ctu) → Breaks (quarter flags square ctu))
      → (above : ChromaFlags) (depth : ℕ) (square : Square) (ctu : Ctu)
      → Breaks (split_or_blocks quarter syntax unit above depth square ctu)
  node_breaks quarter each above depth square ctu =
      then_breaks (split_breaks _ depth) (λ split. then_breaks (flags_break above depth) (λ flags. when_breaks split
      (then_breaks (each flags _ ctu) (λ a. then_breaks (each flags _ a) (λ b. then_breaks (each flags _ b)
      (λ c. each flags _ c))))
      (transform_unit_breaks flags depth square ctu)))

  tree_breaks : (n : ℕ) (above : ChromaFlags) (depth : ℕ) (square : Square) (ctu : Ctu)
      → Breaks (transform_tree syntax unit above n depth square ctu)
  unfolding transform_tree
  tree_breaks zero above depth square ctu = transform_unit_breaks above depth square ctu
  tree_breaks (suc n) above depth square ctu =
      node_breaks (λ flags. transform_tree syntax unit flags n (depth + 1))
      (λ flags inner read. tree_breaks n flags (depth + 1) inner read) above depth square ctu

-- prediction units
two_break : (amp : Bool) (p q r : PartMode) → Breaks (two_parts amp p q r)
unfolding two_parts
two_break amp p q r =
    then_breaks (when_breaks amp (decision_breaks _) (give_breaks _)) (λ even. when_breaks even (give_breaks _)
    (then_breaks bypass_breaks (λ last. give_breaks _)))

four_break : Breaks beside_or_four
unfolding beside_or_four
four_break = then_breaks (decision_breaks _) (λ two. give_breaks _)

beside_break : (inter : InterSyntax) (least : Bool) (n : ℕ) → Breaks (beside_parts inter least n)
unfolding beside_parts
beside_break inter least n = when_breaks _ four_break (two_break _ _ _ _)

more_break : (inter : InterSyntax) (least : Bool) (n : ℕ) → Breaks (more_parts inter least n)
unfolding more_parts
more_break inter least n =
    then_breaks (decision_breaks _) (λ over. when_breaks over (two_break _ _ _ _) (beside_break inter least n))

part_breaks : (inter : InterSyntax) (least : Bool) (n : ℕ) → Breaks (part_mode inter least n)
unfolding part_mode
part_breaks inter least n =
    then_breaks (decision_breaks _) (λ whole. when_breaks whole (give_breaks _) (more_break inter least n))

merge_bin_breaks : (i : ℕ) → Breaks (merge_bin i)
merge_bin_breaks i = when_breaks _ (decision_breaks _) bypass_breaks

merged_breaks : (inter : InterSyntax) → Breaks (merged inter)
merged_breaks inter = then_breaks (truncated_breaks _ _ merge_bin_breaks) (λ index. give_breaks _)

reference_bin_breaks : (i : ℕ) → Breaks (reference_bin i)
reference_bin_breaks i = when_breaks _ (decision_breaks _) bypass_breaks

one_list_breaks : Breaks one_list
one_list_breaks = then_breaks (decision_breaks _) (λ second. give_breaks _)

lists_break : (inter : InterSyntax) (depth : ℕ) (block : Rectangle) → Breaks (inter_pred_idc inter depth block)
unfolding inter_pred_idc
lists_break inter depth block =
    when_breaks _ (when_breaks _ one_list_breaks (then_breaks (decision_breaks _) (λ both.
    when_breaks both (give_breaks _)
    one_list_breaks))) (give_breaks _)

difference_size_breaks : (more : Bool) → Breaks (difference_size more)
unfolding difference_size
difference_size_breaks more =
    when_breaks more (then_breaks (exp_golomb_breaks _ _ vector_rule) (λ rest. give_breaks _)) (give_breaks _)

some_breaks : (more : Bool) → Breaks (some_difference more)
unfolding some_difference
some_breaks more =
    then_breaks (difference_size_breaks more) (λ size. then_breaks bypass_breaks (λ negative.
    then_breaks (wanted_breaks _ _ vector_rule) (λ held. give_breaks _)))

difference_breaks : (some more : Bool) → Breaks (difference some more)
difference_breaks some more = when_breaks some (some_breaks more) (give_breaks _)

greater_breaks : (some : Bool) → Breaks (abs_mvd_greater1_flag some)
greater_breaks some = when_breaks some (decision_breaks _) (give_breaks _)

mvd_breaks : Breaks mvd_coding
unfolding mvd_coding
mvd_breaks =
    then_breaks (decision_breaks _) (λ some_x. then_breaks (decision_breaks _) (λ some_y.
    then_breaks (greater_breaks some_x) (λ more_x. then_breaks (greater_breaks some_y) (λ more_y.
    then_breaks (difference_breaks some_x more_x) (λ x. then_breaks (difference_breaks some_y more_y) (λ y.
    give_breaks _))))))

vector_breaks : (active : ℕ) (coded : Bool) → Breaks (vector_in active coded)
unfolding vector_in
vector_breaks active coded =
    then_breaks (truncated_breaks _ _ reference_bin_breaks) (λ index.
    then_breaks (when_breaks coded mvd_breaks (give_breaks _)) (λ mvd.
    then_breaks (decision_breaks _) (λ mvp. give_breaks _)))

vector_where_breaks : (there : Bool) (active : ℕ) (coded : Bool) → Breaks (vector_where there active coded)
unfolding vector_where
vector_where_breaks there active coded =
    when_breaks there (then_breaks (vector_breaks active coded) (λ vector. give_breaks _)) (give_breaks _)

vectors_break : (inter : InterSyntax) (depth : ℕ) (block : Rectangle) → Breaks (vectors inter depth block)
unfolding vectors
vectors_break inter depth block =
    then_breaks (lists_break inter depth block) (λ lists. then_breaks (vector_where_breaks _ _ _) (λ first.
    then_breaks (vector_where_breaks _ _ _) (λ second. give_breaks _)))

motion_breaks : (inter : InterSyntax) (depth : ℕ) (block : Rectangle) → Breaks (motion inter depth block)
unfolding motion
motion_breaks inter depth block =
    then_breaks (decision_breaks _) (λ is_merged. when_breaks is_merged (merged_breaks inter)
    (vectors_break inter depth block))

prediction_breaks : (inter : InterSyntax) (start : UnitStart) (mode : PartMode) (part : ℕ) (ctu : Ctu)
    → Breaks (prediction_unit inter start mode part ctu)
unfolding prediction_unit
prediction_breaks inter start mode part ctu = then_breaks (motion_breaks inter _ _) (λ told. give_breaks _)

last_two_break : (inter : InterSyntax) (start : UnitStart) (mode : PartMode) (ctu : Ctu)
    → Breaks (last_two inter start mode ctu)
unfolding last_two
last_two_break inter start mode ctu =
    when_breaks _ (then_breaks (prediction_breaks inter start mode 2 ctu) (λ third.
    prediction_breaks inter start mode 3 third)) (give_breaks _)

later_break : (inter : InterSyntax) (start : UnitStart) (mode : PartMode) (ctu : Ctu)
    → Breaks (later_parts inter start mode ctu)
unfolding later_parts
later_break inter start mode ctu =
    when_breaks _ (give_breaks _) (then_breaks (prediction_breaks inter start mode 1 ctu) (λ second.
    last_two_break inter start mode second))

root_breaks : (mode : PartMode) (first : MotionSyntax) → Breaks (rqt_root_cbf mode first)
root_breaks mode first = when_breaks _ (give_breaks _) (decision_breaks _)

-- samples of pulse code modulation
samples_break : (bits count : ℕ) (ctu : Ctu) → Breaks (pcm_samples bits count ctu)
samples_break bits count ctu =
    times_breaks (pcm_sample bits) (λ i x. then_breaks (one_breaks (Sample bits)) (λ value. give_breaks _)) 0 count ctu

pcm_breaks : (pcm : PcmSyntax) (square : Square) (ctu : Ctu) → Breaks (pcm_unit pcm square ctu)
unfolding pcm_unit
pcm_breaks pcm square ctu =
    then_breaks (one_breaks PcmStart) (λ began. then_breaks (samples_break _ _ _) (λ luma.
    then_breaks (samples_break _ _ luma) (λ chroma. then_breaks (one_breaks PcmEnd) (λ ended. give_breaks _))))

-- coding units
module _ (syntax : CtuSyntax) where
  intra_breaks : (start : UnitStart) (split : Bool) (ctu : Ctu) → Breaks (intra_unit syntax start split ctu)
  unfolding intra_unit
  intra_breaks start split ctu =
      then_breaks (modes_break split _ ctu) (λ predicted. then_breaks (chroma_breaks _ _ predicted) (λ mode.
      tree_breaks syntax _ _ _ _ _ _))

  is_split_breaks : (n : ℕ) → Breaks (is_split syntax n)
  is_split_breaks n = when_breaks _ (then_breaks (decision_breaks _) (λ whole. give_breaks _)) (give_breaks _)

  intra_body_breaks : (start : UnitStart) (ctu : Ctu) → Breaks (intra_body syntax start ctu)
  unfolding intra_body
  intra_body_breaks start ctu =
      then_breaks (is_split_breaks start.square.log2_size) (λ split.
      then_breaks (when_breaks _ (one_breaks Terminate) (give_breaks _)) (λ pcm. when_breaks pcm
      (pcm_breaks syntax.pcm start.square ctu) (intra_breaks start split ctu)))

  skipped_breaks : (start : UnitStart) (ctu : Ctu) → Breaks (skipped_unit syntax start ctu)
  unfolding skipped_unit
  skipped_breaks start ctu = then_breaks (merged_breaks syntax.inter) (λ told. give_breaks _)

  parts_break : (start : UnitStart) (mode : PartMode) (ctu : Ctu) → Breaks (parts_and_tree syntax start mode ctu)
  unfolding parts_and_tree
  parts_break start mode ctu =
      then_breaks (motion_breaks syntax.inter _ _) (λ first.
      then_breaks (later_break syntax.inter start mode _) (λ predicted.
      then_breaks (root_breaks mode first) (λ coded.
      when_breaks coded (tree_breaks syntax _ _ _ _ _ _) (give_breaks _))))

  inter_breaks : (start : UnitStart) (ctu : Ctu) → Breaks (inter_unit syntax start ctu)
  unfolding inter_unit
  inter_breaks start ctu = then_breaks (part_breaks syntax.inter _ _) (λ mode. parts_break start mode ctu)

  body_breaks : (start : UnitStart) (ctu : Ctu) → Breaks (unit_body syntax start ctu)
  body_breaks start ctu =
      when_breaks _ (intra_body_breaks start ctu) (when_breaks _ (skipped_breaks start ctu) (inter_breaks start ctu))

  start_breaks : (depth : ℕ) (square : Square) (ctu : Ctu) → Breaks (unit_start syntax depth square ctu)
  unfolding unit_start
  start_breaks depth square ctu =
      then_breaks (when_breaks _ (decision_breaks _) (give_breaks _)) (λ bypass.
      then_breaks (when_breaks _ (decision_breaks _) (give_breaks _)) (λ skipped.
      then_breaks (when_breaks skipped (give_breaks _) (when_breaks _ (decision_breaks _) (give_breaks _))) (λ intra.
      give_breaks _)))

  unit_breaks : (depth : ℕ) (square : Square) (ctu : Ctu) → Breaks (coding_unit syntax depth square ctu)
  unfolding coding_unit
  unit_breaks depth square ctu = then_breaks (start_breaks depth square ctu) (λ start. body_breaks start _)

  split_cu_breaks : (depth : ℕ) (square : Square) (ctu : Ctu) → Breaks (split_cu_flag syntax depth square ctu)
  unfolding split_cu_flag
  split_cu_breaks depth square ctu =
      when_breaks _ (when_breaks _ (decision_breaks _) (give_breaks _)) (give_breaks _)

  or_unit_breaks : (quarter : Square → Ctu → Tree Ctu) → ((square : Square) (ctu : Ctu) → Breaks (quarter square ctu))
      → (depth : ℕ) (square : Square) (ctu : Ctu) → Breaks (split_or_unit syntax quarter depth square ctu)
  or_unit_breaks quarter each depth square ctu =
      then_breaks (split_cu_breaks depth square ctu) (λ split. when_breaks split
      (then_breaks (each _ ctu) (λ a. then_breaks (each _ a) (λ b. then_breaks (each _ b) (λ c. each _ c))))
      (unit_breaks depth square ctu))

  quadtree_breaks : (n depth : ℕ) (square : Square) (ctu : Ctu) → Breaks (coding_quadtree syntax n depth square ctu)
  unfolding coding_quadtree
  quadtree_breaks zero depth square ctu = when_breaks _ (unit_breaks depth square _) (give_breaks _)
  quadtree_breaks (suc n) depth square ctu =
      when_breaks _ (or_unit_breaks (coding_quadtree syntax n (depth + 1))
      (λ inner read. quadtree_breaks n (depth + 1) inner read) depth square _) (give_breaks _)

  tree_unit_breaks : (left above : Sao) (ctu : Ctu) → Breaks (coding_tree_unit syntax left above ctu)
  unfolding coding_tree_unit
  tree_unit_breaks left above ctu =
      then_breaks (sao_breaks syntax left above) (λ offsets. quadtree_breaks ctu.size 0 _ _)

end_breaks : (is_last ends_subset : Bool) → Breaks (unit_end is_last ends_subset)
unfolding unit_end
end_breaks is_last ends_subset =
    then_breaks (one_breaks Terminate) (λ ended. then_breaks (wanted_breaks _ _ slice_end_rule) (λ right.
    when_breaks ended (give_breaks _)
    (when_breaks ends_subset (then_breaks (one_breaks Terminate) (λ one.
    then_breaks (wanted_breaks _ _ subset_end_rule) (λ held.
    give_breaks _))) (give_breaks _))))

pub unit_breaks_few : (syntax : CtuSyntax) (left above : Sao) (is_last ends_subset : Bool) (ctu : Ctu)
    → Breaks (unit_and_end syntax left above is_last ends_subset ctu)
unfolding unit_and_end
unit_breaks_few syntax left above is_last ends_subset ctu =
    then_breaks (tree_unit_breaks syntax left above ctu) (λ c. then_breaks (end_breaks is_last ends_subset) (λ follows.
    give_breaks _))
