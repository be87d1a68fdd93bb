-- What the samples of a slice's coding tree units depend on (7.4.3.2, 7.4.3.3, 7.4.7.1).
use Rattle.std.specs.Prelude.{◌+◌, ◌+ℤ◌, true, false}
use Rattle.spec_reconstruction.specs.HeaderTypes.{SpsFields}
use Rattle.spec_reconstruction.specs.HeaderTypes.{PpsFields}
use Rattle.spec_picture_motion.specs.SliceTypes.{SliceFields}
use Rattle.spec_picture_motion.specs.SpecParameterSets.{picture_scaling_lists}
use Rattle.spec_picture_motion.specs.SpecPictureTrees.{pcm_syntax}
use Rattle.spec_reconstruction.specs.declared.format.UnitFormat.{UnitFormat}
use Rattle.spec_reconstruction.specs.Factors.{scaling_factors}

-- what the samples of a slice's units depend on
unfoldable pub unit_format : SpsFields → PpsFields → SliceFields → UnitFormat
unit_format sps pps slice = record {
  luma_depth = 8 + sps.format.bit_depth_luma_minus8;
  chroma_depth = 8 + sps.format.bit_depth_chroma_minus8;
  pcm_luma_bits = (pcm_syntax sps.tools.pcm).luma_bits;
  pcm_chroma_bits = (pcm_syntax sps.tools.pcm).chroma_bits;
  cb_qp_offset = pps.quantization.pps_cb_qp_offset +ℤ slice.slice_cb_qp_offset;
  cr_qp_offset = pps.quantization.pps_cr_qp_offset +ℤ slice.slice_cr_qp_offset;
  strong_intra_smoothing = sps.strong_intra_smoothing_enabled_flag;
  constrained_intra = pps.quantization.constrained_intra_pred_flag;
  intra_factors = scaling_factors (picture_scaling_lists sps pps) true;
  inter_factors = scaling_factors (picture_scaling_lists sps pps) false;
}
