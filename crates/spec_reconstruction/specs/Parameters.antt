-- The quantization parameters of transform blocks (8.6.1, 8.6.2).
use Rattle.std.specs.Prelude.{ℕ, suc, ◌+◌, ◌-◌, ◌*◌, ◌==◌, ℤ, pos, negsuc, ◌+ℤ◌, ◌-ℤ◌, neg_ℤ, if◌then◌else◌}
use Rattle.spec_transforms.specs.SpecArithmetic.{clip3}
use Rattle.spec_reconstruction.specs.declared.format.UnitFormat.{UnitFormat}
use Rattle.spec_slice_data.specs.Quantization.{chroma_qp_of_index}

-- the bit depth of a component
abbrev pub depth_of : UnitFormat → ℕ → ℕ
depth_of format c = if c == 0 then format.luma_depth else format.chroma_depth

-- QpBdOffset of a bit depth (7.4.3.2)
abbrev pub depth_offset : ℕ → ℕ
depth_offset depth = 6 * (depth - 8)

-- pps_cb_qp_offset + slice_cb_qp_offset, or those of Cr
abbrev pub chroma_offset : UnitFormat → ℕ → ℤ
chroma_offset format c = if c == 1 then format.cb_qp_offset else format.cr_qp_offset

-- QpC and QpBdOffsetC, by qPi; QpC is qPi below 0
abbrev pub offset_parameter : ℕ → ℤ → ℕ
offset_parameter offset (pos index) = chroma_qp_of_index index + offset
offset_parameter offset (negsuc below) = offset - suc below

-- Qp'Cb or Qp'Cr by QpBdOffsetC and what qPi is held from: qPi is Clip3( -QpBdOffsetC, 57, .. )
unfoldable pub chroma_parameter : ℕ → ℤ → ℕ
chroma_parameter offset index = offset_parameter offset (clip3 (neg_ℤ (pos offset)) (pos 57) index)

-- qP of a block of a component in a coding unit whose Qp'Y is qp
unfoldable pub parameter_of : UnitFormat → ℕ → ℕ → ℕ
parameter_of format c qp =
    if c == 0 then qp
    else chroma_parameter (depth_offset format.chroma_depth)
    (pos qp -ℤ pos (depth_offset format.luma_depth) +ℤ chroma_offset format c)
