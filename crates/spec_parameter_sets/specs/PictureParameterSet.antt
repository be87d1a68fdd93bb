-- pic_parameter_set_rbsp up to slice_segment_header_extension_present_flag (7.3.2.3, 7.4.3.3).
use Rattle.std.specs.Prelude.{ℕ, ℤ, pos, Bool, true, false, not, List, Result}
use Rattle.hv_base.specs.declared.breach.Breach.{Breach}
use Rattle.hv_base.specs.declared.breach.Breach.TheVariants as breach
use Rattle.hv_base.specs.declared.limit.LimitKind.TheVariants as bound
use Rattle.hv_base.specs.declared.field_rules.TheConstants.{PARAMETER_SET_RULES}
use Rattle.spec_reference_pictures.specs.HeaderTypes.{DeblockingControl}
use Rattle.spec_reference_pictures.specs.HeaderTypes.{PpsFields}
use Rattle.spec_reference_pictures.specs.HeaderTypes.{PpsFilters}
use Rattle.spec_reference_pictures.specs.HeaderTypes.{PpsIdentity}
use Rattle.spec_reference_pictures.specs.HeaderTypes.{PpsPrediction}
use Rattle.spec_reference_pictures.specs.HeaderTypes.{PpsQuantization}
use Rattle.spec_reference_pictures.specs.HeaderTypes.{PpsSliceDefaults}
use Rattle.spec_reference_pictures.specs.SpecBits.{bits}
use Rattle.spec_reference_pictures.specs.SpecFormats.{wanted}
use Rattle.spec_reference_pictures.specs.SpecFormats.{Header, read, value_of, ◌>>=◌, give, u, flag, ue, ue_to}
use Rattle.spec_reference_pictures.specs.SpecFormats.{se_within, optional}
use Rattle.spec_parameter_sets.specs.Scaling.{scaling_list_data}

-- an offset of deblocking, where it isn't disabled
unfoldable pub deblocking_offset : Bool → Header ℤ
deblocking_offset true = give (pos 0)
deblocking_offset false = se_within 6 6

-- the fields behind deblocking_filter_control_present_flag
unfoldable pub deblocking_control : Header DeblockingControl
deblocking_control = do
  deblocking_filter_override_enabled_flag ← flag
  pps_deblocking_filter_disabled_flag ← flag
  pps_beta_offset_div2 ← deblocking_offset pps_deblocking_filter_disabled_flag
  pps_tc_offset_div2 ← deblocking_offset pps_deblocking_filter_disabled_flag
  give (record {
    deblocking_filter_override_enabled_flag = deblocking_filter_override_enabled_flag;
    pps_deblocking_filter_disabled_flag = pps_deblocking_filter_disabled_flag;
    pps_beta_offset_div2 = pps_beta_offset_div2;
    pps_tc_offset_div2 = pps_tc_offset_div2;
  })

-- the numbers of the set and of its sequence parameter set
unfoldable pub pps_identity : Header PpsIdentity
pps_identity = do
  pps_pic_parameter_set_id ← ue_to 63
  pps_seq_parameter_set_id ← ue_to 15
  give (record {
    pps_pic_parameter_set_id = pps_pic_parameter_set_id;
    pps_seq_parameter_set_id = pps_seq_parameter_set_id;
  })

-- dependent_slice_segments_enabled_flag to num_ref_idx_l1_default_active_minus1
unfoldable pub pps_slice_defaults : Header PpsSliceDefaults
pps_slice_defaults = do
  dependent_slice_segments_enabled_flag ← flag
  output_flag_present_flag ← flag
  num_extra_slice_header_bits ← u 3
  sign_data_hiding_enabled_flag ← flag
  cabac_init_present_flag ← flag
  num_ref_idx_l0_default_active_minus1 ← ue_to 14
  num_ref_idx_l1_default_active_minus1 ← ue_to 14
  give (record {
    dependent_slice_segments_enabled_flag = dependent_slice_segments_enabled_flag;
    output_flag_present_flag = output_flag_present_flag;
    num_extra_slice_header_bits = num_extra_slice_header_bits;
    sign_data_hiding_enabled_flag = sign_data_hiding_enabled_flag;
    cabac_init_present_flag = cabac_init_present_flag;
    num_ref_idx_l0_default_active_minus1 = num_ref_idx_l0_default_active_minus1;
    num_ref_idx_l1_default_active_minus1 = num_ref_idx_l1_default_active_minus1;
  })

-- init_qp_minus26 to pps_slice_chroma_qp_offsets_present_flag. The least init_qp_minus26 is that of samples of 10 bits:
-- whether it suits the bit depth is known where a slice names the sets
unfoldable pub pps_quantization : Header PpsQuantization
pps_quantization = do
  init_qp_minus26 ← se_within 38 25
  constrained_intra_pred_flag ← flag
  transform_skip_enabled_flag ← flag
  cu_qp_delta_enabled_flag ← flag
  diff_cu_qp_delta_depth ← optional cu_qp_delta_enabled_flag (ue)
  pps_cb_qp_offset ← se_within 12 12
  pps_cr_qp_offset ← se_within 12 12
  pps_slice_chroma_qp_offsets_present_flag ← flag
  give (record {
    init_qp_minus26 = init_qp_minus26;
    constrained_intra_pred_flag = constrained_intra_pred_flag;
    transform_skip_enabled_flag = transform_skip_enabled_flag;
    diff_cu_qp_delta_depth = diff_cu_qp_delta_depth;
    pps_cb_qp_offset = pps_cb_qp_offset;
    pps_cr_qp_offset = pps_cr_qp_offset;
    pps_slice_chroma_qp_offsets_present_flag = pps_slice_chroma_qp_offsets_present_flag;
  })

-- weighted_pred_flag to entropy_coding_sync_enabled_flag
unfoldable pub pps_prediction : Header PpsPrediction
pps_prediction = do
  weighted_pred_flag ← flag
  weighted_bipred_flag ← flag
  transquant_bypass_enabled_flag ← flag
  tiles_enabled_flag ← flag
  no_tiles ← wanted (not tiles_enabled_flag) (breach.Limit bound.Tiles)
  entropy_coding_sync_enabled_flag ← flag
  give (record {
    weighted_pred_flag = weighted_pred_flag;
    weighted_bipred_flag = weighted_bipred_flag;
    transquant_bypass_enabled_flag = transquant_bypass_enabled_flag;
    entropy_coding_sync_enabled_flag = entropy_coding_sync_enabled_flag;
  })

-- pps_loop_filter_across_slices_enabled_flag to pps_tc_offset_div2
unfoldable pub pps_filters : Header PpsFilters
pps_filters = do
  pps_loop_filter_across_slices_enabled_flag ← flag
  deblocking_filter_control_present_flag ← flag
  deblocking_control ← optional deblocking_filter_control_present_flag deblocking_control
  give (record {
    pps_loop_filter_across_slices_enabled_flag = pps_loop_filter_across_slices_enabled_flag;
    deblocking_control = deblocking_control;
  })

-- a picture parameter set
unfoldable pub picture_parameter_set : Header PpsFields
picture_parameter_set = do
  identity ← pps_identity
  slice_defaults ← pps_slice_defaults
  quantization ← pps_quantization
  prediction ← pps_prediction
  filters ← pps_filters
  pps_scaling_list_data_present_flag ← flag
  scaling_lists ← optional pps_scaling_list_data_present_flag scaling_list_data
  lists_modification_present_flag ← flag
  log2_parallel_merge_level_minus2 ← ue
  slice_segment_header_extension_present_flag ← flag
  give (record {
    identity = identity;
    slice_defaults = slice_defaults;
    quantization = quantization;
    prediction = prediction;
    filters = filters;
    scaling_lists = scaling_lists;
    lists_modification_present_flag = lists_modification_present_flag;
    log2_parallel_merge_level_minus2 = log2_parallel_merge_level_minus2;
    slice_segment_header_extension_present_flag = slice_segment_header_extension_present_flag;
  })

-- the picture parameter set whose payload, behind the unit's header, these bytes are, or what it breaks or meets first;
-- no bit behind the last field is looked at
unfoldable pub picture_parameter_set_of : List ℕ → Result PpsFields Breach
picture_parameter_set_of bytes = value_of (read PARAMETER_SET_RULES picture_parameter_set (bits bytes))
