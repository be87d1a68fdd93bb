-- Names of spec_parameter_sets that crates above take from here.
unfoldable pub use Rattle.spec_parameter_sets.specs.Fits.{fits}
unfoldable pub use Rattle.spec_parameter_sets.specs.PictureParameterSet.{deblocking_control, deblocking_offset}
unfoldable pub use Rattle.spec_parameter_sets.specs.PictureParameterSet.{picture_parameter_set}
unfoldable pub use Rattle.spec_parameter_sets.specs.PictureParameterSet.{picture_parameter_set_of}
unfoldable pub use Rattle.spec_parameter_sets.specs.PictureParameterSet.{pps_filters, pps_identity, pps_quantization}
unfoldable pub use Rattle.spec_parameter_sets.specs.PictureParameterSet.{pps_slice_defaults}
unfoldable pub use Rattle.spec_parameter_sets.specs.PictureScaling.{picture_scaling_lists}
pub use Rattle.spec_parameter_sets.specs.ProfileTierLevel.{is_main_10}
unfoldable pub use Rattle.spec_parameter_sets.specs.ProfileTierLevel.{greatest_depth_minus8}
unfoldable pub use Rattle.spec_parameter_sets.specs.Scaling.{scaling_list_data}
unfoldable pub use Rattle.spec_parameter_sets.specs.SequenceParameterSet.{bit_depth, block_sizes, conformance_window}
unfoldable pub use Rattle.spec_parameter_sets.specs.SequenceParameterSet.{long_term_candidate, long_term_candidates}
unfoldable pub use Rattle.spec_parameter_sets.specs.SequenceParameterSet.{main_only}
unfoldable pub use Rattle.spec_parameter_sets.specs.SequenceParameterSet.{ordered_sub_layers, pcm_bit_depth}
unfoldable pub use Rattle.spec_parameter_sets.specs.SequenceParameterSet.{pcm_format}
unfoldable pub use Rattle.spec_parameter_sets.specs.SequenceParameterSet.{picture_format, present_scaling_lists}
unfoldable pub use Rattle.spec_parameter_sets.specs.SequenceParameterSet.{scaling_lists}
unfoldable pub use Rattle.spec_parameter_sets.specs.SequenceParameterSet.{sequence_parameter_set}
unfoldable pub use Rattle.spec_parameter_sets.specs.SequenceParameterSet.{sequence_parameter_set_of}
unfoldable pub use Rattle.spec_parameter_sets.specs.SequenceParameterSet.{sets_behind, short_term_ref_pic_sets, side}
unfoldable pub use Rattle.spec_parameter_sets.specs.SequenceParameterSet.{sps_identity, sps_order, sps_references}
unfoldable pub use Rattle.spec_parameter_sets.specs.SequenceParameterSet.{sps_tools}
unfoldable pub use Rattle.spec_parameter_sets.specs.SequenceParameterSet.{sub_layer_ordering, sub_layers}
