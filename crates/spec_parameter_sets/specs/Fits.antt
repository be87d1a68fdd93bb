-- Whether a picture parameter set agrees with the sequence parameter set that it names (7.4.3.3).
use Rattle.std.specs.Prelude.{ℕ, ◌+◌, ℤ, pos, neg_ℤ, int_le, Bool, ◌&&◌, nat_le, Option, Some, None}
use Rattle.spec_reference_pictures.specs.HeaderTypes.{PpsFields}
use Rattle.spec_reference_pictures.specs.HeaderTypes.{BlockSizes}
use Rattle.spec_reference_pictures.specs.HeaderTypes.{SpsFields}
use Rattle.spec_reference_pictures.specs.HeaderTypes.{qp_bd_offset_y}

-- MinCbLog2SizeY
abbrev pub min_cb_log2_size : BlockSizes → ℕ
min_cb_log2_size blocks = blocks.log2_min_luma_coding_block_size_minus3 + 3

-- CtbLog2SizeY
abbrev pub ctb_log2_size : BlockSizes → ℕ
ctb_log2_size blocks = min_cb_log2_size blocks + blocks.log2_diff_max_min_luma_coding_block_size

-- diff_cu_qp_delta_depth, which is inferred to be 0 where it isn't there
abbrev pub qp_delta_depth : Option ℕ → ℕ
qp_delta_depth None = 0
qp_delta_depth (Some depth) = depth

-- Log2ParMrgLevel
abbrev pub log2_par_mrg_level : PpsFields → ℕ
log2_par_mrg_level pps = pps.log2_parallel_merge_level_minus2 + 2

-- the least init_qp_minus26, by QpBdOffsetY
abbrev pub least_init_qp : ℕ → ℤ
least_init_qp offset = neg_ℤ (pos (26 + offset))

-- quantization groups aren't smaller than the least coding block, parallel merge regions not larger than the coding
-- tree block, and SliceQpY is in the range of the bit depth before slice_qp_delta is added
unfoldable pub fits : SpsFields → PpsFields → Bool
fits sps pps =
    nat_le (qp_delta_depth pps.quantization.diff_cu_qp_delta_depth) sps.blocks.log2_diff_max_min_luma_coding_block_size
    && (nat_le (log2_par_mrg_level pps) (ctb_log2_size sps.blocks)
    && int_le (least_init_qp (qp_bd_offset_y sps)) pps.quantization.init_qp_minus26)
