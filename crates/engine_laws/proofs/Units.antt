-- The engine goes on behind a coding tree unit, where neither its segment nor its substream ends with it.
use Rattle.std.proofs.Common.{◌≡◌, ℕ, zero, suc, ◌+◌, ◌*◌, ◌^◌, Bool, true, false, cond, List}
use Rattle.std.proofs.Common.{Option, Some, None, Ok, refl, ap, subst}
use Rattle.std.specs.Bool.{beq}
use Rattle.hv_base.specs.declared.breach.Breach.{Breach}
use Rattle.hv_base.specs.declared.breach.Breach.TheVariants as breach
use Rattle.hv_base.specs.declared.fault.FaultKind.TheVariants as rule
use Rattle.spec_formats.specs.Format.{Give, One, give, wanted, ◌>>=◌}
use Rattle.spec_formats.proofs.Agreement.{ok_is, bind_ok}
use Rattle.spec_cabac.specs.Bins.{State, Tree, PcmStart, PcmEnd, read, terminate}
use Rattle.ctu_records.specs.declared.item.Square.{Square}
use Rattle.ctu_records.specs.declared.offset.Sao.{Sao}
use Rattle.ctu_records.specs.declared.offset.ComponentOffset.{ComponentOffset}
use Rattle.ctu_records.specs.declared.prediction.PartMode.{PartMode}
use Rattle.ctu_records.specs.declared.prediction.MotionSyntax.{MotionSyntax}
use Rattle.ctu_records.specs.declared.prediction.Rectangle.{Rectangle}
use Rattle.ctu_records.specs.Tree.{Ctu, added}
use Rattle.spec_slice_data.specs.declared.syntax.CtuSyntax.{CtuSyntax}
use Rattle.spec_slice_data.specs.declared.syntax.InterSyntax.{InterSyntax}
use Rattle.spec_slice_data.specs.declared.syntax.PcmSyntax.{PcmSyntax}
use Rattle.spec_slice_data.specs.declared.syntax.UnitSyntax.{UnitSyntax}
use Rattle.spec_slice_data.specs.declared.syntax.ChromaFlags.{ChromaFlags}
use Rattle.spec_slice_data.specs.declared.syntax.TransformBlock.{TransformBlock}
use Rattle.spec_slice_data.specs.declared.syntax.End.{End}
use Rattle.spec_slice_data.specs.declared.syntax.End.TheVariants as end
use Rattle.spec_slice_data.specs.Offset.{sao_offset_abs, band_offset, band, sao_type_idx, class_where, offsets}
use Rattle.spec_slice_data.specs.Offset.{component, own_component, like_component, own_where, own_sao}
use Rattle.spec_slice_data.specs.Offset.{sao_or_above, merged_or_own, sao}
use Rattle.spec_slice_data.specs.declared.modes.Candidates.{Candidates}
use Rattle.ctu_records.specs.declared.item.Item.TheVariants.{Pcm}
use Rattle.spec_slice_data.specs.Modes.{luma_mode, luma_block, luma_blocks, luma_quarters}
use Rattle.spec_slice_data.specs.Modes.{luma_modes, intra_chroma_pred_mode, chroma_modes}
use Rattle.spec_slice_data.specs.Quantization.{cu_qp_delta_abs, cu_qp_delta, delta_where, delta_bin}
use Rattle.spec_slice_data.specs.Residual.{coded_block}
use Rattle.spec_slice_data.specs.Transform.{split_transform_flag, chroma_flags, block_where, chroma_blocks}
use Rattle.spec_slice_data.specs.Transform.{chroma_of, transform_blocks, cbf_luma_at, transform_unit}
use Rattle.spec_slice_data.specs.Transform.{split_or_blocks, transform_tree}
use Rattle.spec_slice_data.specs.Inter.{two_parts, beside_or_four, beside_parts, more_parts}
use Rattle.spec_slice_data.specs.Inter.{part_mode, merge_bin, merged, reference_bin, one_list}
use Rattle.spec_slice_data.specs.Inter.{inter_pred_idc, difference_size, some_difference, difference}
use Rattle.spec_slice_data.specs.Inter.{abs_mvd_greater1_flag, mvd_coding, vector_in, vector_where}
use Rattle.spec_slice_data.specs.Inter.{vectors, motion, prediction_unit, last_two, later_parts, rqt_root_cbf}
use Rattle.spec_slice_data.specs.declared.syntax.UnitStart.{UnitStart}
use Rattle.spec_slice_data.specs.Tree.{split_cu_flag, pcm_sample, pcm_samples, pcm_unit}
use Rattle.spec_slice_data.specs.Tree.{is_split, pcm_flag, intra_unit, intra_body, skipped_unit}
use Rattle.spec_slice_data.specs.Tree.{parts_and_tree, inter_unit, unit_body, unit_start, coding_unit, split_or_unit}
use Rattle.spec_slice_data.specs.Tree.{coding_quadtree, coding_tree_unit, unit_end, unit_and_end}
use Rattle.engine_laws.specs.Going.{IsGoing, IsWithin}
use Rattle.engine_laws.proofs.Keeping.{Keeps, give_keeps, then_keeps, when_keeps, wanted_keeps, decision_keeps}
use Rattle.engine_laws.proofs.Keeping.{bypass_keeps, fixed_keeps, truncated_keeps, exp_golomb_keeps, Ends}
use Rattle.engine_laws.proofs.Keeping.{terminate_ends, Stays, give_stays, then_stays, times_stays, sample_stays}
use Rattle.engine_laws.proofs.Keeping.{pcm_start_stays, pcm_end_goes}
use Rattle.engine_laws.proofs.Levels.{residual_keeps}

-- sample adaptive offset
size_keeps : (depth : ℕ) → Keeps (sao_offset_abs depth)
unfolding sao_offset_abs
size_keeps depth = truncated_keeps _ _ (λ i. bypass_keeps)

band_offset_keeps : (size : ℕ) → Keeps (band_offset size)
unfolding band_offset
band_offset_keeps size = then_keeps (when_keeps _ (give_keeps _) bypass_keeps) (λ negative. give_keeps _)

band_keeps : (a b c d : ℕ) → Keeps (band a b c d)
unfolding band
band_keeps a b c d =
    then_keeps (band_offset_keeps a) (λ p. then_keeps (band_offset_keeps b) (λ q. then_keeps (band_offset_keeps c) (λ r.
    then_keeps (band_offset_keeps d) (λ s. then_keeps (fixed_keeps _ _) (λ position. give_keeps _)))))

type_keeps : Keeps sao_type_idx
unfolding sao_type_idx
type_keeps =
    then_keeps (decision_keeps _) (λ applied. when_keeps applied (then_keeps bypass_keeps (λ is_edge. give_keeps _))
    (give_keeps _))

class_keeps : (shared : Option ℕ) → Keeps (class_where shared)
class_keeps None = fixed_keeps _ _
class_keeps (Some class) = give_keeps _

offsets_keep : (depth kind : ℕ) (shared : Option ℕ) → Keeps (offsets depth kind shared)
unfolding offsets
offsets_keep depth kind shared =
    then_keeps (size_keeps depth) (λ a. then_keeps (size_keeps depth) (λ b. then_keeps (size_keeps depth) (λ c.
    then_keeps (size_keeps depth) (λ d. when_keeps _ (band_keeps a b c d)
    (then_keeps (class_keeps shared) (λ class. give_keeps _))))))

component_keeps : (depth kind : ℕ) (shared : Option ℕ) → Keeps (component depth kind shared)
component_keeps depth kind shared = when_keeps _ (give_keeps _) (offsets_keep depth kind shared)

own_component_keeps : (depth : ℕ) → Keeps (own_component depth)
unfolding own_component
own_component_keeps depth = then_keeps type_keeps (λ kind. component_keeps depth kind None)

like_component_keeps : (depth : ℕ) (cb : ComponentOffset) → Keeps (like_component depth cb)
unfolding like_component
like_component_keeps depth cb = component_keeps depth _ _

own_where_keeps : (depth : ℕ) (applied : Bool) → Keeps (own_where depth applied)
own_where_keeps depth applied = when_keeps applied (own_component_keeps depth) (give_keeps _)

own_sao_keeps : (syntax : CtuSyntax) → Keeps (own_sao syntax)
unfolding own_sao
own_sao_keeps syntax =
    then_keeps (own_where_keeps _ _) (λ luma. then_keeps (own_where_keeps _ _) (λ cb.
    then_keeps (when_keeps _ (like_component_keeps _ cb) (give_keeps _)) (λ cr. give_keeps _)))

above_keeps : (syntax : CtuSyntax) (above : Sao) → Keeps (sao_or_above syntax above)
above_keeps syntax above =
    then_keeps (when_keeps _ (decision_keeps _) (give_keeps _)) (λ merged. when_keeps merged (give_keeps _)
    (own_sao_keeps syntax))

own_keeps : (syntax : CtuSyntax) (left above : Sao) → Keeps (merged_or_own syntax left above)
own_keeps syntax left above =
    then_keeps (when_keeps _ (decision_keeps _) (give_keeps _)) (λ merged. when_keeps merged (give_keeps _)
    (above_keeps syntax above))

sao_keeps : (syntax : CtuSyntax) (left above : Sao) → Keeps (sao syntax left above)
unfolding sao
sao_keeps syntax left above =
    when_keeps _ (own_keeps syntax left above) (when_keeps _ (own_keeps syntax left above) (give_keeps _))

-- intra modes
mode_keeps : (most_probable : Bool) (c : Candidates) → Keeps (luma_mode most_probable c)
unfolding luma_mode
mode_keeps most_probable c =
    when_keeps most_probable (then_keeps (truncated_keeps _ _ (λ i. bypass_keeps)) (λ index. give_keeps _))
    (then_keeps (fixed_keeps _ _) (λ rem. give_keeps _))

block_keeps : (square : Square) (most_probable : Bool) (ctu : Ctu) → Keeps (luma_block square most_probable ctu)
unfolding luma_block
block_keeps square most_probable ctu = then_keeps (mode_keeps most_probable _) (λ mode. give_keeps _)

blocks_keep : (square : Square) (p q r s : Bool) (ctu : Ctu) → Keeps (luma_blocks square p q r s ctu)
unfolding luma_blocks
blocks_keep square p q r s ctu =
    then_keeps (block_keeps _ p ctu) (λ a. then_keeps (block_keeps _ q a) (λ b. then_keeps (block_keeps _ r b)
    (λ c. block_keeps _ s c)))

quarters_keep : (square : Square) (ctu : Ctu) → Keeps (luma_quarters square ctu)
unfolding luma_quarters
quarters_keep square ctu =
    then_keeps (decision_keeps _) (λ p. then_keeps (decision_keeps _) (λ q. then_keeps (decision_keeps _) (λ r.
    then_keeps (decision_keeps _) (λ s. blocks_keep square p q r s ctu))))

modes_keep : (split : Bool) (square : Square) (ctu : Ctu) → Keeps (luma_modes split square ctu)
modes_keep split square ctu =
    when_keeps split (quarters_keep square ctu) (then_keeps (decision_keeps _) (λ most_probable.
    block_keeps square most_probable ctu))

chroma_keeps : (x y : ℕ) (ctu : Ctu) → Keeps (chroma_modes x y ctu)
unfolding chroma_modes intra_chroma_pred_mode
chroma_keeps x y ctu =
    then_keeps (then_keeps (decision_keeps _) (λ listed. when_keeps listed (fixed_keeps _ _) (give_keeps _)))
    (λ choice. give_keeps _)

-- quantization
delta_bin_keeps : (i : ℕ) → Keeps (delta_bin i)
delta_bin_keeps i = decision_keeps _

delta_abs_keeps : Keeps cu_qp_delta_abs
unfolding cu_qp_delta_abs
delta_abs_keeps =
    then_keeps (truncated_keeps _ _ delta_bin_keeps) (λ prefix. when_keeps _
    (then_keeps (exp_golomb_keeps _ _) (λ suffix. give_keeps _)) (give_keeps _))

delta_keeps : (offset : ℕ) → Keeps (cu_qp_delta offset)
unfolding cu_qp_delta
delta_keeps offset =
    then_keeps delta_abs_keeps (λ size. then_keeps (when_keeps _ (give_keeps _) bypass_keeps) (λ negative.
    then_keeps (wanted_keeps _ _) (λ held. give_keeps _)))

delta_where_keeps : (syntax : CtuSyntax) (square : Square) (there : Bool) (ctu : Ctu)
    → Keeps (delta_where syntax square there ctu)
unfolding delta_where
delta_where_keeps syntax square there ctu =
    when_keeps there (then_keeps (delta_keeps _) (λ delta. give_keeps _)) (give_keeps _)

-- transform trees
module _ (syntax : CtuSyntax) (unit : UnitSyntax) where
  coded_keeps : (block : TransformBlock) (ctu : Ctu) → Keeps (coded_block syntax unit block ctu)
  unfolding coded_block
  coded_keeps block ctu = then_keeps (residual_keeps _) (λ residual. give_keeps _)

  where_keeps : (coded : Bool) (block : TransformBlock) (ctu : Ctu) → Keeps (block_where syntax unit coded block ctu)
  where_keeps coded block ctu = when_keeps coded (coded_keeps block ctu) (give_keeps _)

  chroma_blocks_keep : (flags : ChromaFlags) (square : Square) (ctu : Ctu)
      → Keeps (chroma_blocks syntax unit flags square ctu)
  unfolding chroma_blocks
  chroma_blocks_keep flags square ctu = then_keeps (where_keeps _ _ ctu) (λ with_cb. where_keeps _ _ with_cb)

  chroma_of_keeps : (flags : ChromaFlags) (square : Square) (ctu : Ctu) → Keeps (chroma_of syntax unit flags square ctu)
  unfolding chroma_of
  chroma_of_keeps flags square ctu =
      when_keeps _ (when_keeps _ (chroma_blocks_keep flags _ ctu) (give_keeps _)) (chroma_blocks_keep flags square ctu)

  transform_blocks_keep : (cbf : Bool) (flags : ChromaFlags) (square : Square) (ctu : Ctu)
      → Keeps (transform_blocks syntax unit cbf flags square ctu)
  unfolding transform_blocks
  transform_blocks_keep cbf flags square ctu =
      then_keeps (delta_where_keeps syntax _ _ ctu) (λ quantized. then_keeps (where_keeps cbf _ quantized)
      (λ with_luma. chroma_of_keeps flags square with_luma))

  cbf_keeps : (flags : ChromaFlags) (depth : ℕ) → Keeps (cbf_luma_at unit flags depth)
  unfolding cbf_luma_at
  cbf_keeps flags depth = when_keeps _ (when_keeps _ (decision_keeps _) (decision_keeps _)) (give_keeps _)

  transform_unit_keeps : (flags : ChromaFlags) (depth : ℕ) (square : Square) (ctu : Ctu)
      → Keeps (transform_unit syntax unit flags depth square ctu)
  unfolding transform_unit
  transform_unit_keeps flags depth square ctu =
      then_keeps (cbf_keeps flags depth) (λ coded. transform_blocks_keep coded flags square _)

  split_keeps : (n depth : ℕ) → Keeps (split_transform_flag syntax unit n depth)
  unfolding split_transform_flag
  split_keeps n depth = when_keeps _ (decision_keeps _) (give_keeps _)

  flags_keep : (above : ChromaFlags) (depth : ℕ) → Keeps (chroma_flags above depth)
  unfolding chroma_flags
  flags_keep above depth =
      then_keeps (when_keeps _ (decision_keeps _) (give_keeps _)) (λ cb.
      then_keeps (when_keeps _ (decision_keeps _) (give_keeps _)) (λ cr. give_keeps _))

  node_keeps : (quarter : ChromaFlags → Square → Ctu → Tree Ctu)
      → ((flags : ChromaFlags) (square : Square) (ctu : Ctu) → Keeps (quarter flags square ctu))
      → (above : ChromaFlags) (depth : ℕ) (square : Square) (ctu : Ctu)
      → Keeps (split_or_blocks quarter syntax unit above depth square ctu)
  node_keeps quarter each above depth square ctu =
      then_keeps (split_keeps _ depth) (λ split. then_keeps (flags_keep above depth) (λ flags. when_keeps split
      (then_keeps (each flags _ ctu) (λ a. then_keeps (each flags _ a) (λ b. then_keeps (each flags _ b)
      (λ c. each flags _ c))))
      (transform_unit_keeps flags depth square ctu)))

  tree_keeps : (n : ℕ) (above : ChromaFlags) (depth : ℕ) (square : Square) (ctu : Ctu)
      → Keeps (transform_tree syntax unit above n depth square ctu)
  unfolding transform_tree
  tree_keeps zero above depth square ctu = transform_unit_keeps above depth square ctu
  tree_keeps (suc n) above depth square ctu =
      node_keeps (λ flags. transform_tree syntax unit flags n (depth + 1))
      (λ flags inner read. tree_keeps n flags (depth + 1) inner read) above depth square ctu

-- prediction units
two_keep : (amp : Bool) (p q r : PartMode) → Keeps (two_parts amp p q r)
unfolding two_parts
two_keep amp p q r =
    then_keeps (when_keeps amp (decision_keeps _) (give_keeps _)) (λ even. when_keeps even (give_keeps _)
    (then_keeps bypass_keeps (λ last. give_keeps _)))

four_keep : Keeps beside_or_four
unfolding beside_or_four
four_keep = then_keeps (decision_keeps _) (λ two. give_keeps _)

beside_keep : (inter : InterSyntax) (least : Bool) (n : ℕ) → Keeps (beside_parts inter least n)
unfolding beside_parts
beside_keep inter least n = when_keeps _ four_keep (two_keep _ _ _ _)

more_keep : (inter : InterSyntax) (least : Bool) (n : ℕ) → Keeps (more_parts inter least n)
unfolding more_parts
more_keep inter least n =
    then_keeps (decision_keeps _) (λ over. when_keeps over (two_keep _ _ _ _) (beside_keep inter least n))

part_keeps : (inter : InterSyntax) (least : Bool) (n : ℕ) → Keeps (part_mode inter least n)
unfolding part_mode
part_keeps inter least n =
    then_keeps (decision_keeps _) (λ whole. when_keeps whole (give_keeps _) (more_keep inter least n))

merge_bin_keeps : (i : ℕ) → Keeps (merge_bin i)
merge_bin_keeps i = when_keeps _ (decision_keeps _) bypass_keeps

merged_keeps : (inter : InterSyntax) → Keeps (merged inter)
merged_keeps inter = then_keeps (truncated_keeps _ _ merge_bin_keeps) (λ index. give_keeps _)

reference_bin_keeps : (i : ℕ) → Keeps (reference_bin i)
reference_bin_keeps i = when_keeps _ (decision_keeps _) bypass_keeps

one_list_keeps : Keeps one_list
one_list_keeps = then_keeps (decision_keeps _) (λ second. give_keeps _)

lists_keep : (inter : InterSyntax) (depth : ℕ) (block : Rectangle) → Keeps (inter_pred_idc inter depth block)
unfolding inter_pred_idc
lists_keep inter depth block =
    when_keeps _ (when_keeps _ one_list_keeps (then_keeps (decision_keeps _) (λ both. when_keeps both (give_keeps _)
    one_list_keeps))) (give_keeps _)

difference_size_keeps : (more : Bool) → Keeps (difference_size more)
unfolding difference_size
difference_size_keeps more =
    when_keeps more (then_keeps (exp_golomb_keeps _ _) (λ rest. give_keeps _)) (give_keeps _)

some_keeps : (more : Bool) → Keeps (some_difference more)
unfolding some_difference
some_keeps more =
    then_keeps (difference_size_keeps more) (λ size. then_keeps bypass_keeps (λ negative.
    then_keeps (wanted_keeps _ _) (λ held. give_keeps _)))

difference_keeps : (some more : Bool) → Keeps (difference some more)
difference_keeps some more = when_keeps some (some_keeps more) (give_keeps _)

greater_keeps : (some : Bool) → Keeps (abs_mvd_greater1_flag some)
greater_keeps some = when_keeps some (decision_keeps _) (give_keeps _)

mvd_keeps : Keeps mvd_coding
unfolding mvd_coding
mvd_keeps =
    then_keeps (decision_keeps _) (λ some_x. then_keeps (decision_keeps _) (λ some_y.
    then_keeps (greater_keeps some_x) (λ more_x. then_keeps (greater_keeps some_y) (λ more_y.
    then_keeps (difference_keeps some_x more_x) (λ x. then_keeps (difference_keeps some_y more_y) (λ y.
    give_keeps _))))))

vector_keeps : (active : ℕ) (coded : Bool) → Keeps (vector_in active coded)
unfolding vector_in
vector_keeps active coded =
    then_keeps (truncated_keeps _ _ reference_bin_keeps) (λ index.
    then_keeps (when_keeps coded mvd_keeps (give_keeps _)) (λ mvd.
    then_keeps (decision_keeps _) (λ mvp. give_keeps _)))

vector_where_keeps : (there : Bool) (active : ℕ) (coded : Bool) → Keeps (vector_where there active coded)
unfolding vector_where
vector_where_keeps there active coded =
    when_keeps there (then_keeps (vector_keeps active coded) (λ vector. give_keeps _)) (give_keeps _)

vectors_keep : (inter : InterSyntax) (depth : ℕ) (block : Rectangle) → Keeps (vectors inter depth block)
unfolding vectors
vectors_keep inter depth block =
    then_keeps (lists_keep inter depth block) (λ lists. then_keeps (vector_where_keeps _ _ _) (λ first.
    then_keeps (vector_where_keeps _ _ _) (λ second. give_keeps _)))

motion_keeps : (inter : InterSyntax) (depth : ℕ) (block : Rectangle) → Keeps (motion inter depth block)
unfolding motion
motion_keeps inter depth block =
    then_keeps (decision_keeps _) (λ is_merged. when_keeps is_merged (merged_keeps inter)
    (vectors_keep inter depth block))

prediction_keeps : (inter : InterSyntax) (start : UnitStart) (mode : PartMode) (part : ℕ) (ctu : Ctu)
    → Keeps (prediction_unit inter start mode part ctu)
unfolding prediction_unit
prediction_keeps inter start mode part ctu = then_keeps (motion_keeps inter _ _) (λ told. give_keeps _)

last_two_keep : (inter : InterSyntax) (start : UnitStart) (mode : PartMode) (ctu : Ctu)
    → Keeps (last_two inter start mode ctu)
unfolding last_two
last_two_keep inter start mode ctu =
    when_keeps _ (then_keeps (prediction_keeps inter start mode 2 ctu) (λ third.
    prediction_keeps inter start mode 3 third)) (give_keeps _)

later_keep : (inter : InterSyntax) (start : UnitStart) (mode : PartMode) (ctu : Ctu)
    → Keeps (later_parts inter start mode ctu)
unfolding later_parts
later_keep inter start mode ctu =
    when_keeps _ (give_keeps _) (then_keeps (prediction_keeps inter start mode 1 ctu) (λ second.
    last_two_keep inter start mode second))

root_keeps : (mode : PartMode) (first : MotionSyntax) → Keeps (rqt_root_cbf mode first)
root_keeps mode first = when_keeps _ (give_keeps _) (decision_keeps _)

-- samples of pulse code modulation, behind which the engine begins anew
samples_stay : (bits count : ℕ) (ctu : Ctu) → Stays (pcm_samples bits count ctu)
samples_stay bits count ctu =
    times_stays (pcm_sample bits) (λ i x. then_stays (sample_stays bits) (λ value. give_stays _)) 0 count ctu

pcm_goes : (pcm : PcmSyntax) (square : Square) (ctu : Ctu) (bits : List Bool) (s t : State) (x : Ctu) → IsWithin bits s
    → read (pcm_unit pcm square ctu) s ≡ Ok (x, t) → IsGoing bits t
unfolding pcm_unit
pcm_goes pcm square ctu bits s t x within e =
    let luma_of : Ctu → Tree Ctu = λ luma.
    pcm_samples pcm.chroma_bits (8 * 4 ^ square.log2_size) luma >>= λ chroma.
    One PcmEnd >>= λ ended. give chroma in
    let began = bind_ok (read (One PcmStart) s) (λ b u.
    read (pcm_samples pcm.luma_bits (16 * 4 ^ square.log2_size) (added ctu (Pcm square)) >>= luma_of) u) (x, t) e in
    let at_first = pcm_start_stays.stays bits s began.state began.value within began.read in
    let luma = bind_ok
    (read (pcm_samples pcm.luma_bits (16 * 4 ^ square.log2_size) (added ctu (Pcm square))) began.state)
    (λ l u. read (luma_of l) u) (x, t) began.then_read in
    let behind_luma = (samples_stay _ _ _).stays bits began.state luma.state luma.value at_first luma.read in
    let chroma = bind_ok (read (pcm_samples pcm.chroma_bits (8 * 4 ^ square.log2_size) luma.value) luma.state)
    (λ c u. read (One PcmEnd >>= λ ended. give c) u) (x, t) luma.then_read in
    let behind_chroma = (samples_stay _ _ _).stays bits luma.state chroma.state chroma.value behind_luma chroma.read in
    let ended = bind_ok (read (One PcmEnd) chroma.state) (λ b u. read (give chroma.value) u) (x, t) chroma.then_read in
    let going = pcm_end_goes bits chroma.state ended.state ended.value behind_chroma ended.read in
    (give_keeps chroma.value).keeps bits ended.state t x going ended.then_read

-- coding units
module _ (syntax : CtuSyntax) where
  intra_keeps : (start : UnitStart) (split : Bool) (ctu : Ctu) → Keeps (intra_unit syntax start split ctu)
  unfolding intra_unit
  intra_keeps start split ctu =
      then_keeps (modes_keep split _ ctu) (λ predicted. then_keeps (chroma_keeps _ _ predicted) (λ mode.
      tree_keeps syntax _ _ _ _ _ _))

  -- by whether samples of pulse code modulation follow
  by_pcm : (start : UnitStart) (split : Bool) (ctu : Ctu) (pcm : Bool) (bits : List Bool) (s t : State) (x : Ctu)
      → IsWithin bits s → (pcm ≡ false → IsGoing bits s)
      → read (cond pcm (pcm_unit syntax.pcm start.square ctu) (intra_unit syntax start split ctu)) s ≡ Ok (x, t)
      → IsGoing bits t
  by_pcm start split ctu true bits s t x within going e = pcm_goes syntax.pcm start.square ctu bits s t x within e
  by_pcm start split ctu false bits s t x within going e =
      (intra_keeps start split ctu).keeps bits s t x (going refl) e

  flag_ends : (there : Bool) (bits : List Bool) (s t : State) (x : Bool) → IsGoing bits s
      → read (cond there terminate (Give false)) s ≡ Ok (x, t) → Ends bits x t
  flag_ends true bits s t x going e = terminate_ends bits s t x going e
  flag_ends false bits s t x going e =
      let after = (give_keeps false).keeps bits s t x going e in
      record { within = after.within; going = λ no. after }

  is_split_keeps : (n : ℕ) → Keeps (is_split syntax n)
  is_split_keeps n = when_keeps _ (then_keeps (decision_keeps _) (λ whole. give_keeps _)) (give_keeps _)

  intra_body_keeps : (start : UnitStart) (ctu : Ctu) → Keeps (intra_body syntax start ctu)
  unfolding intra_body
  intra_body_keeps start ctu =
      then_keeps (is_split_keeps start.square.log2_size) (λ split. record {
        keeps = λ bits s t x going e.
            let flag = bind_ok (read (pcm_flag syntax.pcm split start.square.log2_size) s) (λ pcm u.
            read (cond pcm (pcm_unit syntax.pcm start.square ctu) (intra_unit syntax start split ctu)) u) (x, t) e in
            let ends = flag_ends _ bits s flag.state flag.value going flag.read in
            by_pcm start split ctu flag.value bits flag.state t x ends.within ends.going flag.then_read;
      })

  skipped_keeps : (start : UnitStart) (ctu : Ctu) → Keeps (skipped_unit syntax start ctu)
  unfolding skipped_unit
  skipped_keeps start ctu = then_keeps (merged_keeps syntax.inter) (λ told. give_keeps _)

  parts_keep : (start : UnitStart) (mode : PartMode) (ctu : Ctu) → Keeps (parts_and_tree syntax start mode ctu)
  unfolding parts_and_tree
  parts_keep start mode ctu =
      then_keeps (motion_keeps syntax.inter _ _) (λ first.
      then_keeps (later_keep syntax.inter start mode _) (λ predicted.
      then_keeps (root_keeps mode first) (λ coded. when_keeps coded (tree_keeps syntax _ _ _ _ _ _) (give_keeps _))))

  inter_keeps : (start : UnitStart) (ctu : Ctu) → Keeps (inter_unit syntax start ctu)
  unfolding inter_unit
  inter_keeps start ctu = then_keeps (part_keeps syntax.inter _ _) (λ mode. parts_keep start mode ctu)

  body_keeps : (start : UnitStart) (ctu : Ctu) → Keeps (unit_body syntax start ctu)
  body_keeps start ctu =
      when_keeps _ (intra_body_keeps start ctu) (when_keeps _ (skipped_keeps start ctu) (inter_keeps start ctu))

  start_keeps : (depth : ℕ) (square : Square) (ctu : Ctu) → Keeps (unit_start syntax depth square ctu)
  unfolding unit_start
  start_keeps depth square ctu =
      then_keeps (when_keeps _ (decision_keeps _) (give_keeps _)) (λ bypass.
      then_keeps (when_keeps _ (decision_keeps _) (give_keeps _)) (λ skipped.
      then_keeps (when_keeps skipped (give_keeps _) (when_keeps _ (decision_keeps _) (give_keeps _))) (λ intra.
      give_keeps _)))

  unit_keeps : (depth : ℕ) (square : Square) (ctu : Ctu) → Keeps (coding_unit syntax depth square ctu)
  unfolding coding_unit
  unit_keeps depth square ctu = then_keeps (start_keeps depth square ctu) (λ start. body_keeps start _)

  split_cu_keeps : (depth : ℕ) (square : Square) (ctu : Ctu) → Keeps (split_cu_flag syntax depth square ctu)
  unfolding split_cu_flag
  split_cu_keeps depth square ctu =
      when_keeps _ (when_keeps _ (decision_keeps _) (give_keeps _)) (give_keeps _)

  or_unit_keeps : (quarter : Square → Ctu → Tree Ctu) → ((square : Square) (ctu : Ctu) → Keeps (quarter square ctu))
      → (depth : ℕ) (square : Square) (ctu : Ctu) → Keeps (split_or_unit syntax quarter depth square ctu)
  or_unit_keeps quarter each depth square ctu =
      then_keeps (split_cu_keeps depth square ctu) (λ split. when_keeps split
      (then_keeps (each _ ctu) (λ a. then_keeps (each _ a) (λ b. then_keeps (each _ b) (λ c. each _ c))))
      (unit_keeps depth square ctu))

  quadtree_keeps : (n depth : ℕ) (square : Square) (ctu : Ctu) → Keeps (coding_quadtree syntax n depth square ctu)
  unfolding coding_quadtree
  quadtree_keeps zero depth square ctu = when_keeps _ (unit_keeps depth square _) (give_keeps _)
  quadtree_keeps (suc n) depth square ctu =
      when_keeps _ (or_unit_keeps (coding_quadtree syntax n (depth + 1))
      (λ inner read. quadtree_keeps n (depth + 1) inner read) depth square _) (give_keeps _)

  tree_unit_keeps : (left above : Sao) (ctu : Ctu) → Keeps (coding_tree_unit syntax left above ctu)
  unfolding coding_tree_unit
  tree_unit_keeps left above ctu =
      then_keeps (sao_keeps syntax left above) (λ offsets. quadtree_keeps ctu.size 0 _ _)

-- what a unit's end leaves
pub record EndsAs (bits : List Bool) (is_last ends_subset : Bool) (follows : End) (t : State) : Type 0 where
  pub within : IsWithin bits t
  pub going : follows ≡ end.More → IsGoing bits t
  pub more : is_last ≡ false → ends_subset ≡ false → follows ≡ end.More

wanted_same : (fact : Bool) (e : Breach) (s t : State) (x : Bool) → read (wanted fact e) s ≡ Ok (x, t) → s ≡ t
wanted_same true e s t x is = ap (λ (r : Bool × State). r.1) (ok_is (true, s) (x, t) is)
wanted_same false e s t x is = absurd cc

wanted_true : (fact : Bool) (e : Breach) (s t : State) (x : Bool) → read (wanted fact e) s ≡ Ok (x, t) → fact ≡ true
wanted_true true e s t x is = refl
wanted_true false e s t x is = absurd cc

given_end : (bits : List Bool) (is_last ends_subset : Bool) (given follows : End) (s t : State)
    → EndsAs bits is_last ends_subset given s → read (give given) s ≡ Ok (follows, t)
    → EndsAs bits is_last ends_subset follows t
given_end bits is_last ends_subset given follows s t ends e =
    subst (λ (r : End × State). EndsAs bits is_last ends_subset r.0 r.1) (ok_is (given, s) (follows, t) e) ends

subset_end : (bits : List Bool) (is_last : Bool) (s t : State) (follows : End) → IsGoing bits s
    → read (terminate >>= λ one. wanted one (breach.Fault rule.SubsetEnd) >>= λ held. give end.Subset) s
    ≡ Ok (follows, t)
    → EndsAs bits is_last true follows t
subset_end bits is_last s t follows going e =
    let one = bind_ok (read terminate s)
    (λ o u. read (wanted o (breach.Fault rule.SubsetEnd) >>= λ held. give end.Subset) u) (follows, t) e in
    let ends = terminate_ends bits s one.state one.value going one.read in
    let held = bind_ok (read (wanted one.value (breach.Fault rule.SubsetEnd)) one.state)
    (λ h u. read (give end.Subset) u) (follows, t) one.then_read in
    let same = wanted_same one.value (breach.Fault rule.SubsetEnd) one.state held.state held.value held.read in
    given_end bits is_last true end.Subset follows held.state t
    (record {
      within = subst (IsWithin bits) same ends.within;
      going = λ more. absurd cc;
      more = λ no never. absurd cc;
    })
    held.then_read

-- by whether the segment ends, and whether the substream does
by_end : (bits : List Bool) (is_last ended ends_subset : Bool) (s t : State) (follows : End) → beq ended is_last ≡ true
    → Ends bits ended s
    → read (cond ended (give end.Segment) (cond ends_subset
    (terminate >>= λ one. wanted one (breach.Fault rule.SubsetEnd) >>= λ held. give end.Subset) (give end.More))) s
    ≡ Ok (follows, t)
    → EndsAs bits is_last ends_subset follows t
by_end bits true true ends_subset s t follows same ends e =
    given_end bits true ends_subset end.Segment follows s t
    (record { within = ends.within; going = λ more. absurd cc; more = λ no. absurd cc }) e
by_end bits false true ends_subset s t follows same ends e = absurd cc
by_end bits is_last false true s t follows same ends e = subset_end bits is_last s t follows (ends.going refl) e
by_end bits is_last false false s t follows same ends e =
    given_end bits is_last false end.More follows s t
    (record { within = ends.within; going = λ more. ends.going refl; more = λ last subset. refl }) e

end_leaves : (is_last ends_subset : Bool) (bits : List Bool) (s t : State) (follows : End) → IsGoing bits s
    → read (unit_end is_last ends_subset) s ≡ Ok (follows, t) → EndsAs bits is_last ends_subset follows t
unfolding unit_end
end_leaves is_last ends_subset bits s t follows going e =
    let behind : Bool → Tree End = λ ended.
    cond ended (give end.Segment) (cond ends_subset
    (terminate >>= λ one. wanted one (breach.Fault rule.SubsetEnd) >>= λ held. give end.Subset) (give end.More)) in
    let ended = bind_ok (read terminate s)
    (λ o u. read (wanted (beq o is_last) (breach.Fault rule.SliceEnd) >>= λ right. behind o) u) (follows, t) e in
    let ends = terminate_ends bits s ended.state ended.value going ended.read in
    let right = bind_ok (read (wanted (beq ended.value is_last) (breach.Fault rule.SliceEnd)) ended.state)
    (λ h u. read (behind ended.value) u) (follows, t) ended.then_read in
    let same =
    wanted_same (beq ended.value is_last) (breach.Fault rule.SliceEnd) ended.state right.state right.value right.read in
    let right_end =
    wanted_true (beq ended.value is_last) (breach.Fault rule.SliceEnd) ended.state right.state right.value right.read in
    by_end bits is_last ended.value ends_subset right.state t follows right_end
    (subst (Ends bits ended.value) same ends) right.then_read

pub unit_leaves : (syntax : CtuSyntax) (left above : Sao) (is_last ends_subset : Bool) (ctu : Ctu)
    (bits : List Bool) (s t : State) (r : Ctu × End) → IsGoing bits s
    → read (unit_and_end syntax left above is_last ends_subset ctu) s ≡ Ok (r, t)
    → EndsAs bits is_last ends_subset r.1 t
unfolding unit_and_end
unit_leaves syntax left above is_last ends_subset ctu bits s t r going e =
    let tree = bind_ok (read (coding_tree_unit syntax left above ctu) s)
    (λ c u. read (unit_end is_last ends_subset >>= λ follows. give (c, follows)) u) (r, t) e in
    let behind = (tree_unit_keeps syntax left above ctu).keeps bits s tree.state tree.value going tree.read in
    let ended = bind_ok (read (unit_end is_last ends_subset) tree.state)
    (λ follows u. read (give (tree.value, follows)) u) (r, t) tree.then_read in
    let leaves = end_leaves is_last ends_subset bits tree.state ended.state ended.value behind ended.read in
    subst (λ (q : (Ctu × End) × State). EndsAs bits is_last ends_subset q.0.1 q.1)
    (ok_is ((tree.value, ended.value), ended.state) (r, t) ended.then_read) leaves
