-- What the samples of the coding tree units of a picture's slices depend on (7.4.7.1).
use Rattle.std.specs.Prelude.{◌≡◌, ◌+◌, ◌+ℤ◌}
use Rattle.header_types.specs.declared.pps.PpsFields.{PpsFields}
use Rattle.slice_types.specs.declared.slice.SliceFields.{SliceFields}
use Rattle.header_types.specs.declared.sps.SpsFields.{SpsFields}
use Rattle.spec_picture_build.specs.Format.{unit_format}
use Rattle.spec_reconstruction.specs.declared.format.UnitFormat.{UnitFormat}

-- with the offsets of a slice
abbrev pub of_slice : PpsFields → SliceFields → UnitFormat → UnitFormat
of_slice pps slice format = record {
  luma_depth = format.luma_depth;
  chroma_depth = format.chroma_depth;
  pcm_luma_bits = format.pcm_luma_bits;
  pcm_chroma_bits = format.pcm_chroma_bits;
  cb_qp_offset = pps.quantization.pps_cb_qp_offset +ℤ slice.slice_cb_qp_offset;
  cr_qp_offset = pps.quantization.pps_cr_qp_offset +ℤ slice.slice_cr_qp_offset;
  strong_intra_smoothing = format.strong_intra_smoothing;
  constrained_intra = format.constrained_intra;
  intra_factors = format.intra_factors;
  inter_factors = format.inter_factors;
}

-- the format of each slice of a picture but for its offsets
abbrev pub IsCommon : SpsFields → PpsFields → UnitFormat → Type 0
IsCommon sps pps format = (slice : SliceFields) → of_slice pps slice format ≡ unit_format sps pps slice

-- the bit depths of a picture
abbrev pub HasDepths : SpsFields → UnitFormat → Type 0
HasDepths sps format =
    (format.luma_depth ≡ 8 + sps.format.bit_depth_luma_minus8)
    × (format.chroma_depth ≡ 8 + sps.format.bit_depth_chroma_minus8)
