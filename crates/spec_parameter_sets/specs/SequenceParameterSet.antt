-- seq_parameter_set_rbsp up to vui_parameters_present_flag (7.3.2.2, 7.4.3.2).
use Rattle.std.specs.Prelude.{ℕ, zero, suc, ◌+◌, ◌-◌, ◌*◌, ◌%◌, ◌^◌, min, Bool, true, false, ◌&&◌, ◌==◌, List, []}
use Rattle.std.specs.Prelude.{◌∷◌}
use Rattle.std.specs.Prelude.{◌++◌, length, Option, None, Result, nat_lt, nat_le, if◌then◌else◌}
use Rattle.hv_base.specs.declared.breach.Breach.{Breach}
use Rattle.hv_base.specs.declared.breach.Breach.TheVariants as breach
use Rattle.hv_base.specs.declared.fault.FaultKind.TheVariants as fault
use Rattle.hv_base.specs.declared.field_rules.TheConstants.{PARAMETER_SET_RULES}
use Rattle.hv_base.specs.declared.limit.LimitKind.TheVariants as bound
use Rattle.spec_reference_pictures.specs.HeaderTypes.{Profile}
use Rattle.spec_reference_pictures.specs.HeaderTypes.{ScalingLists}
use Rattle.spec_reference_pictures.specs.HeaderTypes.{StRps}
use Rattle.spec_reference_pictures.specs.HeaderTypes.{BlockSizes}
use Rattle.spec_reference_pictures.specs.HeaderTypes.{ConformanceWindow}
use Rattle.spec_reference_pictures.specs.HeaderTypes.{LongTermCandidate}
use Rattle.spec_reference_pictures.specs.HeaderTypes.{PcmFormat}
use Rattle.spec_reference_pictures.specs.HeaderTypes.{PictureFormat}
use Rattle.spec_reference_pictures.specs.HeaderTypes.{SpsFields}
use Rattle.spec_reference_pictures.specs.HeaderTypes.{SpsIdentity}
use Rattle.spec_reference_pictures.specs.HeaderTypes.{SpsOrder}
use Rattle.spec_reference_pictures.specs.HeaderTypes.{SpsReferences}
use Rattle.spec_reference_pictures.specs.HeaderTypes.{SpsTools}
use Rattle.spec_reference_pictures.specs.HeaderTypes.{SubLayerOrdering}
use Rattle.spec_reference_pictures.specs.HeaderTypes.{min_cb_log2, ctb_log2, highest_ordering}
use Rattle.spec_reference_pictures.specs.SpecBits.{bits}
use Rattle.spec_reference_pictures.specs.SpecFormats.{wanted}
use Rattle.spec_reference_pictures.specs.SpecFormats.{Header, read, value_of, ◌>>=◌, give, ranged, u, flag, ue, ue_to}
use Rattle.spec_reference_pictures.specs.SpecFormats.{optional}
use Rattle.spec_reference_pictures.specs.SpecFormats.{repeated}
use Rattle.spec_parameter_sets.specs.Levels.{level_kept}
use Rattle.spec_parameter_sets.specs.ProfileTierLevel.{greatest_depth_minus8, profile_tier_level}
use Rattle.spec_parameter_sets.specs.Scaling.{scaling_list_data}
use Rattle.spec_reference_pictures.specs.ShortTermSets.{st_ref_pic_set}

-- a number of luma samples from 1 to 8192
unfoldable pub side : Header ℕ
side = do
  samples ← ue
  some_samples ← ranged (nat_lt 0 samples)
  short ← wanted (nat_le samples 8192) (breach.Limit bound.Side)
  give samples

-- the fields behind conformance_window_flag, in units of two luma samples
unfoldable pub conformance_window : ℕ → ℕ → Header ConformanceWindow
conformance_window width height = do
  conf_win_left_offset ← ue
  conf_win_right_offset ← ue
  columns_left ← ranged (nat_lt (2 * (conf_win_left_offset + conf_win_right_offset)) width)
  conf_win_top_offset ← ue
  conf_win_bottom_offset ← ue
  rows_left ← ranged (nat_lt (2 * (conf_win_top_offset + conf_win_bottom_offset)) height)
  give (record {
    conf_win_left_offset = conf_win_left_offset;
    conf_win_right_offset = conf_win_right_offset;
    conf_win_top_offset = conf_win_top_offset;
    conf_win_bottom_offset = conf_win_bottom_offset;
  })

-- a field that has one value in each profile
unfoldable pub main_only : ℕ → Header ℕ
main_only value = do
  found ← ue
  main ← wanted (found == value) (breach.Fault fault.Profile)
  give found

-- the bit depth of a component less 8, which the profile bounds
unfoldable pub bit_depth : ℕ → Header ℕ
bit_depth greatest_minus8 = do
  minus8 ← ue
  within ← wanted (nat_le minus8 greatest_minus8) (breach.Fault fault.Profile)
  give minus8

-- chroma_format_idc to bit_depth_chroma_minus8, by the general profile; separate_colour_plane_flag stands behind a
-- chroma_format_idc of 3 alone
unfoldable pub picture_format : Profile → Header PictureFormat
picture_format general = do
  chroma_format_idc ← main_only 1
  pic_width_in_luma_samples ← side
  pic_height_in_luma_samples ← side
  small ← wanted (nat_le (pic_width_in_luma_samples * pic_height_in_luma_samples) 35651584) (breach.Limit bound.Area)
  conformance_window_flag ← flag
  window ← optional conformance_window_flag (conformance_window pic_width_in_luma_samples pic_height_in_luma_samples)
  bit_depth_luma_minus8 ← bit_depth (greatest_depth_minus8 general)
  bit_depth_chroma_minus8 ← bit_depth (greatest_depth_minus8 general)
  give (record {
    chroma_format_idc = chroma_format_idc;
    pic_width_in_luma_samples = pic_width_in_luma_samples;
    pic_height_in_luma_samples = pic_height_in_luma_samples;
    conformance_window = window;
    bit_depth_luma_minus8 = bit_depth_luma_minus8;
    bit_depth_chroma_minus8 = bit_depth_chroma_minus8;
  })

-- the buffering and reordering of one sub-layer
unfoldable pub sub_layer_ordering : Header SubLayerOrdering
sub_layer_ordering = do
  max_dec_pic_buffering_minus1 ← ue_to 15
  max_num_reorder_pics ← ue_to max_dec_pic_buffering_minus1
  max_latency_increase_plus1 ← ue
  give (record {
    max_dec_pic_buffering_minus1 = max_dec_pic_buffering_minus1;
    max_num_reorder_pics = max_num_reorder_pics;
    max_latency_increase_plus1 = max_latency_increase_plus1;
  })

-- for how many sub-layers it is told: for each, or for the highest alone
unfoldable pub ordered_sub_layers : Bool → ℕ → ℕ
ordered_sub_layers present max_sub_layers_minus1 = if present then max_sub_layers_minus1 + 1 else 1

-- log2_min_luma_coding_block_size_minus3 to max_transform_hierarchy_depth_intra: the smallest coding blocks fill the
-- picture, coding tree blocks have 16 to 64 luma samples a side, transform blocks are smaller than coding blocks and at
-- most 32
unfoldable pub block_sizes : ℕ → ℕ → Header BlockSizes
block_sizes width height = do
  coding_minus3 ← ue_to 3
  whole_blocks ← ranged ((width % 2 ^ (coding_minus3 + 3) == 0) && (height % 2 ^ (coding_minus3 + 3) == 0))
  coding_diff ← ue
  main ←
      wanted (nat_le 4 (coding_minus3 + 3 + coding_diff) && nat_le (coding_minus3 + 3 + coding_diff) 6)
      (breach.Fault fault.Profile)
  transform_minus2 ← ue
  smaller ← ranged (nat_lt (transform_minus2 + 2) (coding_minus3 + 3))
  transform_diff ← ue
  within ← ranged (nat_le (transform_minus2 + 2 + transform_diff) (min (coding_minus3 + 3 + coding_diff) 5))
  max_transform_hierarchy_depth_inter ← ue_to (coding_minus3 + 3 + coding_diff - (transform_minus2 + 2))
  max_transform_hierarchy_depth_intra ← ue_to (coding_minus3 + 3 + coding_diff - (transform_minus2 + 2))
  give (record {
    log2_min_luma_coding_block_size_minus3 = coding_minus3;
    log2_diff_max_min_luma_coding_block_size = coding_diff;
    log2_min_luma_transform_block_size_minus2 = transform_minus2;
    log2_diff_max_min_luma_transform_block_size = transform_diff;
    max_transform_hierarchy_depth_inter = max_transform_hierarchy_depth_inter;
    max_transform_hierarchy_depth_intra = max_transform_hierarchy_depth_intra;
  })

-- sps_scaling_list_data_present_flag and the lists behind it
unfoldable pub present_scaling_lists : Header (Option ScalingLists)
present_scaling_lists = do
  sps_scaling_list_data_present_flag ← flag
  optional sps_scaling_list_data_present_flag scaling_list_data

-- the lists behind scaling_list_enabled_flag
unfoldable pub scaling_lists : Bool → Header (Option ScalingLists)
scaling_lists false = give None
scaling_lists true = present_scaling_lists

-- pcm_sample_bit_depth: less 1, by the bit depth of the samples less 8, which it is not over
unfoldable pub pcm_bit_depth : ℕ → Header ℕ
pcm_bit_depth bit_depth_minus8 = do
  minus1 ← u 4
  within ← ranged (nat_le minus1 (7 + bit_depth_minus8))
  give minus1

-- the fields behind pcm_enabled_flag
unfoldable pub pcm_format : PictureFormat → BlockSizes → Header PcmFormat
pcm_format format blocks = do
  pcm_sample_bit_depth_luma_minus1 ← pcm_bit_depth format.bit_depth_luma_minus8
  pcm_sample_bit_depth_chroma_minus1 ← pcm_bit_depth format.bit_depth_chroma_minus8
  log2_min_pcm_minus3 ← ue
  least ←
      ranged (nat_le (min (min_cb_log2 blocks) 5) (log2_min_pcm_minus3 + 3)
      && nat_le (log2_min_pcm_minus3 + 3) (min (ctb_log2 blocks) 5))
  log2_diff_pcm ← ue
  greatest ← ranged (nat_le (log2_min_pcm_minus3 + 3 + log2_diff_pcm) (min (ctb_log2 blocks) 5))
  pcm_loop_filter_disabled_flag ← flag
  give (record {
    pcm_sample_bit_depth_luma_minus1 = pcm_sample_bit_depth_luma_minus1;
    pcm_sample_bit_depth_chroma_minus1 = pcm_sample_bit_depth_chroma_minus1;
    log2_min_pcm_luma_coding_block_size_minus3 = log2_min_pcm_minus3;
    log2_diff_max_min_pcm_luma_coding_block_size = log2_diff_pcm;
    pcm_loop_filter_disabled_flag = pcm_loop_filter_disabled_flag;
  })

-- n sets more behind the former, of count sets in all
unfoldable pub sets_behind : ℕ → ℕ → ℕ → List StRps → Header (List StRps)
sets_behind zero count greatest former = give former
sets_behind (suc n) count greatest former = do
  set ← st_ref_pic_set (length former) count former greatest
  sets_behind n count greatest (former ++ set ∷ [])

-- num_short_term_ref_pic_sets and the sets
unfoldable pub short_term_ref_pic_sets : ℕ → Header (List StRps)
short_term_ref_pic_sets greatest = do
  num_short_term_ref_pic_sets ← ue_to 64
  sets_behind num_short_term_ref_pic_sets num_short_term_ref_pic_sets greatest []

-- lt_ref_pic_poc_lsb_sps and used_by_curr_pic_lt_sps_flag
unfoldable pub long_term_candidate : ℕ → Header LongTermCandidate
long_term_candidate lsb_bits = do
  lt_ref_pic_poc_lsb_sps ← u lsb_bits
  used_by_curr_pic_lt_sps_flag ← flag
  give (record {
    lt_ref_pic_poc_lsb_sps = lt_ref_pic_poc_lsb_sps;
    used_by_curr_pic_lt_sps_flag = used_by_curr_pic_lt_sps_flag;
  })

-- num_long_term_ref_pics_sps and the candidates
unfoldable pub long_term_candidates : ℕ → Header (List LongTermCandidate)
long_term_candidates lsb_bits = do
  num_long_term_ref_pics_sps ← ue_to 32
  repeated num_long_term_ref_pics_sps (long_term_candidate lsb_bits)

-- sps_max_sub_layers_minus1, from 0 to 6
unfoldable pub sub_layers : Header ℕ
sub_layers = do
  minus1 ← u 3
  within ← ranged (nat_le minus1 6)
  give minus1

-- sps_video_parameter_set_id to sps_seq_parameter_set_id
unfoldable pub sps_identity : Header SpsIdentity
sps_identity = do
  sps_video_parameter_set_id ← u 4
  sps_max_sub_layers_minus1 ← sub_layers
  sps_temporal_id_nesting_flag ← flag
  profile_tier_level ← profile_tier_level sps_max_sub_layers_minus1
  sps_seq_parameter_set_id ← ue_to 15
  give (record {
    sps_video_parameter_set_id = sps_video_parameter_set_id;
    sps_max_sub_layers_minus1 = sps_max_sub_layers_minus1;
    sps_temporal_id_nesting_flag = sps_temporal_id_nesting_flag;
    profile_tier_level = profile_tier_level;
    sps_seq_parameter_set_id = sps_seq_parameter_set_id;
  })

-- log2_max_pic_order_cnt_lsb_minus4 to sps_max_latency_increase_plus1
unfoldable pub sps_order : ℕ → Header SpsOrder
sps_order sps_max_sub_layers_minus1 = do
  log2_max_pic_order_cnt_lsb_minus4 ← ue_to 12
  sps_sub_layer_ordering_info_present_flag ← flag
  orderings ←
      repeated (ordered_sub_layers sps_sub_layer_ordering_info_present_flag sps_max_sub_layers_minus1)
      sub_layer_ordering
  give (record {
    log2_max_pic_order_cnt_lsb_minus4 = log2_max_pic_order_cnt_lsb_minus4;
    sps_sub_layer_ordering_info_present_flag = sps_sub_layer_ordering_info_present_flag;
    sub_layer_ordering = orderings;
  })

-- scaling_list_enabled_flag to pcm_loop_filter_disabled_flag
unfoldable pub sps_tools : PictureFormat → BlockSizes → Header SpsTools
sps_tools format blocks = do
  scaling_list_enabled_flag ← flag
  scaling_lists ← scaling_lists scaling_list_enabled_flag
  amp_enabled_flag ← flag
  sample_adaptive_offset_enabled_flag ← flag
  pcm_enabled_flag ← flag
  pcm ← optional pcm_enabled_flag (pcm_format format blocks)
  give (record {
    scaling_list_enabled_flag = scaling_list_enabled_flag;
    scaling_lists = scaling_lists;
    amp_enabled_flag = amp_enabled_flag;
    sample_adaptive_offset_enabled_flag = sample_adaptive_offset_enabled_flag;
    pcm = pcm;
  })

-- num_short_term_ref_pic_sets to sps_temporal_mvp_enabled_flag
unfoldable pub sps_references : SpsOrder → Header SpsReferences
sps_references order = do
  short_term_ref_pic_sets ←
      short_term_ref_pic_sets (highest_ordering order.sub_layer_ordering).max_dec_pic_buffering_minus1
  long_term_ref_pics_present_flag ← flag
  long_term_ref_pics ←
      optional long_term_ref_pics_present_flag (long_term_candidates (order.log2_max_pic_order_cnt_lsb_minus4 + 4))
  sps_temporal_mvp_enabled_flag ← flag
  give (record {
    short_term_ref_pic_sets = short_term_ref_pic_sets;
    long_term_ref_pics = long_term_ref_pics;
    sps_temporal_mvp_enabled_flag = sps_temporal_mvp_enabled_flag;
  })

-- a sequence parameter set. Its level is judged behind its last field
unfoldable pub sequence_parameter_set : Header SpsFields
sequence_parameter_set = do
  identity ← sps_identity
  format ← picture_format identity.profile_tier_level.general
  order ← sps_order identity.sps_max_sub_layers_minus1
  blocks ← block_sizes format.pic_width_in_luma_samples format.pic_height_in_luma_samples
  tools ← sps_tools format blocks
  references ← sps_references order
  strong_intra_smoothing_enabled_flag ← flag
  vui_parameters_present_flag ← flag
  kept ←
      level_kept identity.profile_tier_level.general_level_idc format.pic_width_in_luma_samples
      format.pic_height_in_luma_samples
      ((highest_ordering order.sub_layer_ordering).max_dec_pic_buffering_minus1 + 1)
  give (record {
    identity = identity;
    format = format;
    order = order;
    blocks = blocks;
    tools = tools;
    references = references;
    strong_intra_smoothing_enabled_flag = strong_intra_smoothing_enabled_flag;
    vui_parameters_present_flag = vui_parameters_present_flag;
  })

-- the sequence parameter set of a payload
unfoldable pub sequence_parameter_set_of : List ℕ → Result SpsFields Breach
sequence_parameter_set_of bytes = value_of (read PARAMETER_SET_RULES sequence_parameter_set (bits bytes))
