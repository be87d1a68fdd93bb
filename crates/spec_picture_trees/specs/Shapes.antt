-- A planned picture and its slice segments as their data are read (6.3.1, 7.3.8.1, 7.4.3.2, 7.4.3.3, 7.4.7.1, 9.3.1).
-- Sizes are binary logarithms of sides in places of 4x4 luma samples.
use Rattle.std.specs.Prelude.{ℕ, ◌+◌, ◌-◌, ◌*◌, ◌/◌, ◌^◌, ℤ, pos, ◌+ℤ◌, Bool, true, false, List, [], ◌∷◌, map, min}
use Rattle.std.specs.Prelude.{max}
use Rattle.std.specs.Prelude.{Option, Some, None, is_some, unwrap_or, slice_index_or, unsigned_abs, if◌then◌else◌}
use Rattle.spec_slice_headers.specs.HeaderTypes.{SpsFields}
use Rattle.spec_slice_headers.specs.HeaderTypes.{PcmFormat}
use Rattle.spec_slice_headers.specs.HeaderTypes.{PpsFields}
use Rattle.spec_slice_headers.specs.SliceTypes.{InterFields}
use Rattle.spec_slice_headers.specs.SliceTypes.{SliceFields}
use Rattle.spec_slice_headers.specs.SliceTypes.{SliceType}
use Rattle.spec_slice_headers.specs.BlockGeometry.{ctb_place}
use Rattle.spec_slice_headers.specs.HeaderTypes.{ctb_log2, min_cb_log2, min_tb_log2, max_tb_log2, min_pcm_log2}
use Rattle.spec_slice_headers.specs.HeaderTypes.{max_pcm_log2, width_in_ctbs, qp_bd_offset_y}
use Rattle.spec_slice_headers.specs.PlanTypes.{SegmentPlan}
use Rattle.spec_slice_headers.specs.PlanTypes.{PicturePlan}
use Rattle.spec_slice_headers.specs.PlanTypes.{address_of}
use Rattle.spec_slice_headers.specs.InterFields.{is_b}
use Rattle.spec_slice_headers.specs.SliceFields.{slice_qp}
use Rattle.spec_slice_headers.specs.Substreams.{bytes_of}
use Rattle.spec_slice_data.specs.SpecCabac.{clip3, first_contexts}
use Rattle.spec_slice_data.specs.declared.syntax.CtuSyntax.{CtuSyntax}
use Rattle.spec_slice_data.specs.declared.syntax.InterSyntax.{InterSyntax}
use Rattle.spec_slice_data.specs.declared.syntax.PcmSyntax.{PcmSyntax}
use Rattle.spec_slice_data.specs.Segment.{PictureShape, SegmentShape}

-- a side in places, by its side in luma samples
abbrev pub in_places : ℕ → ℕ
in_places log2 = log2 - 2

-- the sizes of a picture, in coding tree units and in places
unfoldable pub picture_shape : SpsFields → PpsFields → PictureShape
picture_shape sps pps = record {
  width = width_in_ctbs sps;
  across = sps.format.pic_width_in_luma_samples / 4;
  down = sps.format.pic_height_in_luma_samples / 4;
  size = in_places (ctb_log2 sps.blocks);
  sync = pps.prediction.entropy_coding_sync_enabled_flag;
}

-- QpBdOffsetY
abbrev pub qp_bd_offset : SpsFields → ℕ
qp_bd_offset sps = qp_bd_offset_y sps

-- the blocks that pulse code modulation takes
abbrev pub pcm_syntax : Option PcmFormat → PcmSyntax
pcm_syntax None = record { enabled = false; log2_least = 0; log2_greatest = 0; luma_bits = 0; chroma_bits = 0 }
pcm_syntax (Some pcm) = record {
  enabled = true;
  log2_least = in_places (min_pcm_log2 pcm);
  log2_greatest = in_places (max_pcm_log2 pcm);
  luma_bits = pcm.pcm_sample_bit_depth_luma_minus1 + 1;
  chroma_bits = pcm.pcm_sample_bit_depth_chroma_minus1 + 1;
}

-- num_ref_idx_lX_active, which is at most 16
abbrev pub active : ℕ → ℕ
active minus1 = min minus1 15 + 1

-- what inter coding units of a slice depend on: a slice whose header has no fields of P and B slices has none
unfoldable pub inter_syntax : SpsFields → SliceType → Option InterFields → InterSyntax
inter_syntax sps kind None = record {
  is_inter = false;
  is_b = false;
  max_merge = 1;
  active_0 = 1;
  active_1 = 1;
  mvd_l1_zero = false;
  amp_enabled = sps.tools.amp_enabled_flag;
  max_depth_inter = sps.blocks.max_transform_hierarchy_depth_inter;
}
inter_syntax sps kind (Some fields) = record {
  is_inter = true;
  is_b = is_b kind;
  max_merge = 5 - fields.five_minus_max_num_merge_cand;
  active_0 = active fields.num_ref_idx_l0_active_minus1;
  active_1 = active (unwrap_or fields.num_ref_idx_l1_active_minus1 0);
  mvd_l1_zero = fields.mvd_l1_zero_flag;
  amp_enabled = sps.tools.amp_enabled_flag;
  max_depth_inter = sps.blocks.max_transform_hierarchy_depth_inter;
}

-- initType of a slice (9.3.2.2)
abbrev pub init_type_of : Bool → Bool → ℕ
init_type_of of_b cabac_init = if of_b then (if cabac_init then 1 else 2) else (if cabac_init then 2 else 1)

-- initType of a slice (9.3.2.2)
unfoldable pub init_type : SliceType → Option InterFields → ℕ
init_type kind None = 0
init_type kind (Some fields) = init_type_of (is_b kind) fields.cabac_init_flag

-- what the elements of all units of a slice depend on. What depends on the unit is not known yet
unfoldable pub slice_syntax : SpsFields → PpsFields → SliceFields → CtuSyntax
slice_syntax sps pps fields = record {
  log2_min_coding = in_places (min_cb_log2 sps.blocks);
  log2_min_transform = in_places (min_tb_log2 sps.blocks);
  log2_max_transform = in_places (max_tb_log2 sps.blocks);
  max_depth_intra = sps.blocks.max_transform_hierarchy_depth_intra;
  log2_group = in_places (ctb_log2 sps.blocks - unwrap_or pps.quantization.diff_cu_qp_delta_depth 0);
  luma_depth = 8 + sps.format.bit_depth_luma_minus8;
  chroma_depth = 8 + sps.format.bit_depth_chroma_minus8;
  qp_offset = qp_bd_offset sps;
  cu_qp_delta_enabled = is_some pps.quantization.diff_cu_qp_delta_depth;
  transquant_bypass_enabled = pps.prediction.transquant_bypass_enabled_flag;
  transform_skip_enabled = pps.quantization.transform_skip_enabled_flag;
  sign_data_hiding_enabled = pps.slice_defaults.sign_data_hiding_enabled_flag;
  pcm = pcm_syntax sps.tools.pcm;
  inter = inter_syntax sps fields.slice_type fields.inter;
  sao_luma = fields.slice_sao_luma_flag;
  sao_chroma = fields.slice_sao_chroma_flag;
  has_left = false;
  has_above = false;
  right = 0;
  lower = 0;
}

-- what the data of a segment are read by
abbrev pub segment_syntax : PicturePlan → SegmentPlan → CtuSyntax
segment_syntax p s = slice_syntax p.sps p.pps s.header.slice

-- Qp'Y of a slice, by SliceQpY (8.6.1)
abbrev pub first_qp : ℕ → ℤ → ℕ
first_qp qp_offset slice_qp_y = unsigned_abs (clip3 (pos 0) (pos (51 + qp_offset)) (slice_qp_y +ℤ pos qp_offset))

-- the segment that begins a segment's slice
abbrev pub slice_start : PicturePlan → SegmentPlan → SegmentPlan
slice_start p s = slice_index_or p.segments s.slice s

-- the place behind a segment's last unit: where the next one begins, or the picture's end. It begins at a place in the
-- picture, and not before the segment does
abbrev pub end_of : ℕ → ℕ → List SegmentPlan → ℕ
end_of size first [] = max first size
end_of size first (next ∷ later) = max first (min (ctb_place (address_of next)) size)

-- a segment, from the place where its first unit stands to the one behind its last
unfoldable pub segment_shape : PicturePlan → SegmentPlan → ℕ → ℕ → SegmentShape
segment_shape p s first behind = record {
  first = first;
  count = behind - first;
  slice = address_of (slice_start p s);
  qp = first_qp (qp_bd_offset p.sps) (slice_qp p.pps s.header.slice.slice_qp_delta);
  contexts =
      first_contexts (slice_qp p.pps s.header.slice.slice_qp_delta)
      (init_type s.header.slice.slice_type s.header.slice.inter);
  dependent = s.header.segment.dependent_slice_segment_flag;
  substreams = map (bytes_of s.payload) s.substreams;
}
