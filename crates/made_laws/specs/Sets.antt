-- The parameter sets of streams that are made (7.3.2.2, 7.3.2.3).
use Rattle.std.specs.Prelude.{pos, true, false, [], ◌∷◌, replicate, Some, None}
use Rattle.header_types.specs.declared.former.Sets.{Sets}
use Rattle.header_types.specs.declared.pps.PpsFields.{PpsFields}
use Rattle.header_types.specs.declared.profile.Profile.{Profile}
use Rattle.header_types.specs.declared.profile.ProfileTierLevel.{ProfileTierLevel}
use Rattle.header_types.specs.declared.sps.BlockSizes.{BlockSizes}
use Rattle.header_types.specs.declared.sps.PcmFormat.{PcmFormat}
use Rattle.header_types.specs.declared.sps.PictureFormat.{PictureFormat}
use Rattle.header_types.specs.declared.sps.SpsFields.{SpsFields}

-- the Main profile, flags 1 and 2 of profile_compatibility_flag being 1
abbrev pub made_profile : Profile
made_profile = record {
  profile_space = 0;
  tier_flag = false;
  profile_idc = 1;
  profile_compatibility_flags = 1610612736;
  progressive_source_flag = true;
  interlaced_source_flag = false;
  non_packed_constraint_flag = false;
  frame_only_constraint_flag = true;
  reserved_zero_44bits = 0;
}

-- level 1
abbrev pub made_level : ProfileTierLevel
made_level = record {
  general = made_profile;
  general_level_idc = 30;
  reserved_zero_2bits = 0;
  sub_layers = [];
}

abbrev pub made_format : PictureFormat
made_format = record {
  chroma_format_idc = 1;
  pic_width_in_luma_samples = 128;
  pic_height_in_luma_samples = 96;
  conformance_window = None;
  bit_depth_luma_minus8 = 0;
  bit_depth_chroma_minus8 = 0;
}

-- coding tree blocks of 16, coding blocks from 8 on, and transform blocks from 4 to 8
abbrev pub made_blocks : BlockSizes
made_blocks = record {
  log2_min_luma_coding_block_size_minus3 = 0;
  log2_diff_max_min_luma_coding_block_size = 1;
  log2_min_luma_transform_block_size_minus2 = 0;
  log2_diff_max_min_luma_transform_block_size = 1;
  max_transform_hierarchy_depth_inter = 0;
  max_transform_hierarchy_depth_intra = 0;
}

-- blocks of 8 and of 16, of 8 bits, which loop filters leave as they are
abbrev pub made_pcm : PcmFormat
made_pcm = record {
  pcm_sample_bit_depth_luma_minus1 = 7;
  pcm_sample_bit_depth_chroma_minus1 = 7;
  log2_min_pcm_luma_coding_block_size_minus3 = 0;
  log2_diff_max_min_pcm_luma_coding_block_size = 1;
  pcm_loop_filter_disabled_flag = true;
}

-- 256 values of slice_pic_order_cnt_lsb, and a buffer of three pictures of which one may be reordered
unfoldable pub made_sps : SpsFields
made_sps = record {
  identity = record {
    sps_video_parameter_set_id = 0;
    sps_max_sub_layers_minus1 = 0;
    sps_temporal_id_nesting_flag = true;
    profile_tier_level = made_level;
    sps_seq_parameter_set_id = 0;
  };
  format = made_format;
  order = record {
    log2_max_pic_order_cnt_lsb_minus4 = 4;
    sps_sub_layer_ordering_info_present_flag = true;
    sub_layer_ordering =
        record { max_dec_pic_buffering_minus1 = 2; max_num_reorder_pics = 1; max_latency_increase_plus1 = 0 } ∷ [];
  };
  blocks = made_blocks;
  tools = record {
    scaling_list_enabled_flag = false;
    scaling_lists = None;
    amp_enabled_flag = false;
    sample_adaptive_offset_enabled_flag = false;
    pcm = Some made_pcm;
  };
  references = record {
    short_term_ref_pic_sets = [];
    long_term_ref_pics = None;
    sps_temporal_mvp_enabled_flag = false;
  };
  strong_intra_smoothing_enabled_flag = false;
  vui_parameters_present_flag = false;
}

-- entropy coding sync and QP 26, and no tool beside them
unfoldable pub made_pps : PpsFields
made_pps = record {
  identity = record { pps_pic_parameter_set_id = 0; pps_seq_parameter_set_id = 0 };
  slice_defaults = record {
    dependent_slice_segments_enabled_flag = false;
    output_flag_present_flag = false;
    num_extra_slice_header_bits = 0;
    sign_data_hiding_enabled_flag = false;
    cabac_init_present_flag = false;
    num_ref_idx_l0_default_active_minus1 = 0;
    num_ref_idx_l1_default_active_minus1 = 0;
  };
  quantization = record {
    init_qp_minus26 = pos 0;
    constrained_intra_pred_flag = false;
    transform_skip_enabled_flag = false;
    diff_cu_qp_delta_depth = None;
    pps_cb_qp_offset = pos 0;
    pps_cr_qp_offset = pos 0;
    pps_slice_chroma_qp_offsets_present_flag = false;
  };
  prediction = record {
    weighted_pred_flag = false;
    weighted_bipred_flag = false;
    transquant_bypass_enabled_flag = false;
    entropy_coding_sync_enabled_flag = true;
  };
  filters = record { pps_loop_filter_across_slices_enabled_flag = false; deblocking_control = None };
  scaling_lists = None;
  lists_modification_present_flag = false;
  log2_parallel_merge_level_minus2 = 0;
  slice_segment_header_extension_present_flag = false;
}

-- both, each at its id, and no other
abbrev pub made_sets : Sets
made_sets = record {
  sps = Some made_sps ∷ replicate 15 None;
  pps = Some made_pps ∷ replicate 63 None;
}
