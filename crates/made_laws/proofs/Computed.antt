-- What is computed: definitions that a row of this crate opens.
use Rattle.std.specs.Prelude.{⊤}
use Rattle.header_types.specs.SequenceParameterSets.{highest_ordering, blocks_across}
use Rattle.spec_parameter_sets.specs.PictureParameterSet.{deblocking_offset, deblocking_control, pps_identity}
use Rattle.spec_parameter_sets.specs.PictureParameterSet.{pps_slice_defaults, pps_quantization, pps_prediction}
use Rattle.spec_parameter_sets.specs.PictureParameterSet.{pps_filters, picture_parameter_set}
use Rattle.spec_parameter_sets.specs.PictureParameterSet.{picture_parameter_set_of}
use Rattle.spec_parameter_sets.specs.ProfileTierLevel.{reserved_44bits, profile, sub_layer_flags, reserved_2bits}
use Rattle.spec_parameter_sets.specs.ProfileTierLevel.{greatest_depth_minus8, sub_layer, profile_tier_level}
use Rattle.spec_parameter_sets.specs.SequenceParameterSet.{side, conformance_window, main_only, bit_depth}
use Rattle.spec_parameter_sets.specs.SequenceParameterSet.{picture_format}
use Rattle.spec_parameter_sets.specs.SequenceParameterSet.{sub_layer_ordering, ordered_sub_layers, block_sizes}
use Rattle.spec_parameter_sets.specs.SequenceParameterSet.{present_scaling_lists, scaling_lists, pcm_bit_depth}
use Rattle.spec_parameter_sets.specs.SequenceParameterSet.{pcm_format, sets_behind, short_term_ref_pic_sets}
use Rattle.spec_parameter_sets.specs.SequenceParameterSet.{long_term_candidate, long_term_candidates, sub_layers}
use Rattle.spec_parameter_sets.specs.SequenceParameterSet.{sps_identity, sps_order, sps_tools, sps_references}
use Rattle.spec_parameter_sets.specs.SequenceParameterSet.{sequence_parameter_set, sequence_parameter_set_of}
use Rattle.spec_formats.specs.Fields.{field_at, repeated, each}
use Rattle.spec_bits.specs.Bits.{bit_of, bits, number_of, u_at, flag_at}
use Rattle.spec_bits.specs.ExpGolomb.{ue_at, code_num_at, signed_of, se_at}
use Rattle.spec_reference_pictures.specs.PictureOrderCount.{lsb_of, pic_order_cnt_msb, in_range, pic_order_cnt_val}
use Rattle.spec_reference_pictures.specs.ReferencePictureSet.{num_pic_total_curr, greatest_below, is_named, place_of}
use Rattle.spec_reference_pictures.specs.ReferencePictureSet.{reference_pocs, msb_cycle_before, long_term_name}
use Rattle.spec_reference_pictures.specs.ReferencePictureSet.{long_term_places, short_term_pocs, short_term_set}
use Rattle.spec_reference_pictures.specs.ReferencePictureSet.{long_term_set, named_sets, lacks_current, found}
use Rattle.spec_reference_pictures.specs.ReferencePictureSet.{mark_after, found_set, reference_picture_set}
use Rattle.spec_reference_pictures.specs.ShortTermSets.{signed, step, outward, explicit_set, use_delta, use_flags}
use Rattle.spec_reference_pictures.specs.ShortTermSets.{moved_entry, moved, sides, moved_set, delta_idx_minus1}
use Rattle.spec_reference_pictures.specs.ShortTermSets.{source_at, predicted_set, is_predicted, st_ref_pic_set}
use Rattle.spec_parameter_sets.specs.Fits.{fits}
use Rattle.spec_slice_headers.specs.Context.{ceil_log2}
use Rattle.spec_slice_headers.specs.InterFields.{list_entry, modification, collocated, inter_fields}
use Rattle.spec_slice_headers.specs.NamedSets.{named_sets as slice_sets}
use Rattle.spec_slice_headers.specs.ReferenceRules.{judged_references}
use Rattle.spec_slice_headers.specs.References.{coded_short_term, named_short_term, short_term, msb_cycle}
use Rattle.spec_slice_headers.specs.References.{named_long_term, coded_long_term, long_term_of, long_term}
use Rattle.spec_slice_headers.specs.References.{coded_references, reference_fields}
use Rattle.spec_slice_headers.specs.SegmentHeader.{entry_point, entry_points, coded_extension, slice_segment_header}
use Rattle.spec_slice_headers.specs.SegmentHeader.{alignment, slice_header_of}
use Rattle.spec_slice_headers.specs.SegmentStart.{front, later_place, place}
use Rattle.spec_slice_headers.specs.SliceFields.{slice_type, temporal_flag, qp_delta, chroma_offset, own_deblocking}
use Rattle.spec_slice_headers.specs.SliceFields.{deblocking, filter_fields, later_fields, slice_fields}
use Rattle.spec_parameter_sets.specs.Levels.{level_of, max_dpb_size, within_level, level_kept}
use Rattle.spec_written_headers.specs.Codes.{bits_of, spelled, code_at}
use Rattle.spec_reference_pictures.specs.ReferenceLists.{in_turn, temporary_entry, reference_list, reference_lists}
use Rattle.spec_output_order.specs.OutputOrder.{is_full_of_references, needs_bumping, bumped, started, ended}
use Rattle.spec_output_order.specs.OutputOrder.{outputs_of, last_outputs}
use Rattle.spec_picture_plan.specs.Closing.{broken_in}
use Rattle.spec_picture_plan.specs.Pictures.{beginning, former_after}
use Rattle.spec_picture_plan.specs.Steps.{picture_of}
use Rattle.made_laws.specs.Sets.{made_pps, made_sps}
use Rattle.made_laws.specs.Headers.{made_header}
use Rattle.made_laws.specs.Plans.{made_plan}
use Rattle.spec_made.specs.Headers.{sequence_payload, picture_payload, idr_codes, inter_codes}

-- a parameter set
unfoldable pub sets_computed : ⊤
unfolding sequence_payload picture_payload made_sps made_pps highest_ordering blocks_across deblocking_offset
    deblocking_control pps_identity pps_slice_defaults pps_quantization pps_prediction pps_filters
    picture_parameter_set picture_parameter_set_of reserved_44bits profile sub_layer_flags reserved_2bits sub_layer
    profile_tier_level level_of max_dpb_size within_level level_kept side conformance_window main_only
    greatest_depth_minus8 bit_depth picture_format sub_layer_ordering ordered_sub_layers
    block_sizes present_scaling_lists scaling_lists pcm_bit_depth pcm_format sets_behind short_term_ref_pic_sets
    long_term_candidate long_term_candidates sub_layers sps_identity sps_order sps_tools sps_references
    sequence_parameter_set sequence_parameter_set_of field_at repeated each bit_of bits number_of u_at flag_at ue_at
    code_num_at signed_of se_at
sets_computed = tt

-- a slice segment header, by the codes of its fields
unfoldable pub headers_computed : ⊤
unfolding sets_computed idr_codes inter_codes made_header lsb_of pic_order_cnt_msb in_range pic_order_cnt_val
    num_pic_total_curr greatest_below is_named place_of reference_pocs msb_cycle_before long_term_name
    long_term_places short_term_pocs short_term_set long_term_set named_sets lacks_current found mark_after found_set
    reference_picture_set signed step outward explicit_set use_delta use_flags moved_entry moved sides moved_set
    delta_idx_minus1 source_at predicted_set is_predicted st_ref_pic_set fits ceil_log2 list_entry modification
    collocated inter_fields slice_sets judged_references coded_short_term named_short_term short_term msb_cycle
    named_long_term coded_long_term long_term_of long_term coded_references reference_fields entry_point entry_points
    coded_extension slice_segment_header alignment slice_header_of front later_place place slice_type temporal_flag
    qp_delta chroma_offset own_deblocking deblocking filter_fields later_fields slice_fields bits_of spelled code_at
headers_computed = tt

-- the plan of a picture
unfoldable pub plans_computed : ⊤
unfolding headers_computed made_plan in_turn temporary_entry reference_list reference_lists is_full_of_references
    needs_bumping bumped started ended outputs_of last_outputs broken_in beginning former_after picture_of
plans_computed = tt
