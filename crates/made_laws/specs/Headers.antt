-- The slice segment headers of a stream that is made (7.3.6.1), in groups of eight pictures: an IDR picture, then P and
-- B pictures by turns, each P picture two order counts on and the B picture behind it between both.
use Rattle.std.specs.Prelude.{ℕ, ◌+◌, ◌-◌, ◌%◌, ◌==◌, pos, negsuc, Bool, true, false, List, [], ◌∷◌, Option, Some}
use Rattle.std.specs.Prelude.{None}
use Rattle.std.specs.Prelude.{if◌then◌else◌}
use Rattle.hv_base.specs.declared.nal_types.TheConstants.{IDR_W_RADL}
use Rattle.header_types.specs.declared.short_term_set.StRps.{StRps}
use Rattle.slice_types.specs.declared.slice.InterFields.{InterFields}
use Rattle.slice_types.specs.declared.slice.PictureKind.{PictureKind}
use Rattle.slice_types.specs.declared.slice.ReferenceFields.{ReferenceFields}
use Rattle.slice_types.specs.declared.slice.SegmentFields.{SegmentFields}
use Rattle.slice_types.specs.declared.slice.SliceDeblocking.{SliceDeblocking}
use Rattle.slice_types.specs.declared.slice.SliceFields.{SliceFields}
use Rattle.slice_types.specs.declared.slice.SliceHeaderFields.{SliceHeaderFields}
use Rattle.slice_types.specs.declared.slice.SliceType.{SliceType}
use Rattle.slice_types.specs.declared.slice.SliceType.TheVariants as slice

-- the slice type of the picture of a number in its group
abbrev pub type_at : ℕ → SliceType
type_at g = if g == 0 then slice.I else (if g % 2 == 1 then slice.P else slice.B)

-- its order count
abbrev pub order_at : ℕ → ℕ
order_at g = if g == 0 then 0 else (if g % 2 == 1 then g + 1 else g - 1)

-- IDR_W_RADL, TRAIL_R, and TRAIL_N, to which no other picture refers
abbrev pub nal_type_of : SliceType → ℕ
nal_type_of slice.I = IDR_W_RADL
nal_type_of slice.P = 1
nal_type_of slice.B = 0

abbrev pub is_intra : SliceType → Bool
is_intra slice.I = true
is_intra slice.P = false
is_intra slice.B = false

abbrev pub made_kind : SliceType → PictureKind
made_kind type =
    record { nal_type = nal_type_of type; temporal_id = 0; no_rasl_output_flag = is_intra type; max_lsb = 256 }

-- a picture's only slice segment
abbrev pub made_segment : SliceType → SegmentFields
made_segment type = record {
  first_slice_segment_in_pic_flag = true;
  no_output_of_prior_pics_flag = if is_intra type then Some false else None;
  slice_pic_parameter_set_id = 0;
  dependent_slice_segment_flag = false;
  slice_segment_address = 0;
}

-- the picture two order counts before, or those just before and behind
abbrev pub made_set : SliceType → StRps
made_set slice.I = record { negative = []; positive = [] }
made_set slice.P = record { negative = record { delta_poc = negsuc 1; used = true } ∷ []; positive = [] }
made_set slice.B = record {
  negative = record { delta_poc = negsuc 0; used = true } ∷ [];
  positive = record { delta_poc = pos 1; used = true } ∷ [];
}

abbrev pub made_references : SliceType → ℕ → ReferenceFields
made_references type poc = record {
  slice_pic_order_cnt_lsb = poc;
  short_term_ref_pic_set_sps_flag = false;
  short_term_ref_pic_set_idx = 0;
  short_term_ref_pic_set = made_set type;
  long_term = record { num_long_term_sps = 0; entries = [] };
}

-- one active entry in each list, and one merge candidate
abbrev pub inter_with : Option ℕ → InterFields
inter_with l1_minus1 = record {
  num_ref_idx_active_override_flag = false;
  num_ref_idx_l0_active_minus1 = 0;
  num_ref_idx_l1_active_minus1 = l1_minus1;
  list_entry_l0 = None;
  list_entry_l1 = None;
  mvd_l1_zero_flag = false;
  cabac_init_flag = false;
  collocated = None;
  weights = None;
  five_minus_max_num_merge_cand = 4;
}

abbrev pub made_inter : SliceType → Option InterFields
made_inter slice.I = None
made_inter slice.P = Some (inter_with None)
made_inter slice.B = Some (inter_with (Some 0))

abbrev pub made_deblocking : SliceDeblocking
made_deblocking = record {
  deblocking_filter_override_flag = false;
  slice_deblocking_filter_disabled_flag = false;
  slice_beta_offset_div2 = pos 0;
  slice_tc_offset_div2 = pos 0;
}

abbrev pub made_fields : SliceType → ℕ → SliceFields
made_fields type poc = record {
  slice_type = type;
  pic_output_flag = true;
  references = made_references type poc;
  slice_temporal_mvp_enabled_flag = false;
  slice_sao_luma_flag = false;
  slice_sao_chroma_flag = false;
  inter = made_inter type;
  slice_qp_delta = pos 0;
  slice_cb_qp_offset = pos 0;
  slice_cr_qp_offset = pos 0;
  deblocking = made_deblocking;
  slice_loop_filter_across_slices_enabled_flag = false;
}

-- the header of a picture's slice, in a unit of this number, with these entry points, whose data begin there
unfoldable pub made_header : SliceType → ℕ → ℕ → List ℕ → ℕ → SliceHeaderFields
made_header type poc nal entry_points data_place = record {
  nal = nal;
  kind = made_kind type;
  segment = made_segment type;
  slice = made_fields type poc;
  entry_points = entry_points;
  extension = None;
  data_place = data_place;
}
