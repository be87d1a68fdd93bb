-- What a NAL unit is to the pictures of a stream, by its nal_unit_type (7.4.2.2, 7.4.2.4.4).
use Rattle.std.specs.Prelude.{ℕ, ◌%◌, Bool, not, ◌&&◌, ◌||◌, nat_le, ◌==◌, if◌then◌else◌}
use Rattle.hv_base.specs.declared.nal_types.TheConstants.{AUD_NUT, BLA_W_LP, CRA_NUT, EOB_NUT, EOS_NUT, PPS_NUT}
use Rattle.hv_base.specs.declared.nal_types.TheConstants.{PREFIX_SEI_NUT, RADL_N, RADL_R, RASL_N, RASL_R, RSV_VCL_N14}
use Rattle.hv_base.specs.declared.nal_types.TheConstants.{SPS_NUT, SUFFIX_SEI_NUT, VPS_NUT}
use Rattle.spec_picture_plan.specs.declared.unit_kind.UnitKind.{UnitKind}
use Rattle.spec_picture_plan.specs.declared.unit_kind.UnitKind.TheVariants.{Slice, SequenceSet, PictureSet}
use Rattle.spec_picture_plan.specs.declared.unit_kind.UnitKind.TheVariants.{SequenceEnd}
use Rattle.spec_picture_plan.specs.declared.unit_kind.UnitKind.TheVariants.{Border, SuffixInformation, Other}

-- the slice segments that may be decoded
abbrev pub is_slice : ℕ → Bool
is_slice nal_type = nat_le nal_type RASL_R || (nat_le BLA_W_LP nal_type && nat_le nal_type CRA_NUT)

-- the kind of a unit by nal_unit_type (Table 7-1)
unfoldable pub kind_of_type : ℕ → UnitKind
kind_of_type nal_type =
    if is_slice nal_type then Slice
    else (if nal_type == SPS_NUT then SequenceSet
    else (if nal_type == PPS_NUT then PictureSet
    else (if (nal_type == EOS_NUT) || (nal_type == EOB_NUT) then SequenceEnd
    else (if (nal_type == VPS_NUT) || (nal_type == AUD_NUT) || (nal_type == PREFIX_SEI_NUT) then Border
    else (if nal_type == SUFFIX_SEI_NUT then SuffixInformation
    else Other)))))

-- random access skipped leading pictures, and random access decodable ones
abbrev pub is_rasl : ℕ → Bool
is_rasl nal_type = (nal_type == RASL_N) || (nal_type == RASL_R)

-- RADL pictures
abbrev pub is_radl : ℕ → Bool
is_radl nal_type = (nal_type == RADL_N) || (nal_type == RADL_R)

-- sub-layer non-reference pictures: of even type
abbrev pub is_sub_layer_non_reference : ℕ → Bool
is_sub_layer_non_reference nal_type = nat_le nal_type RSV_VCL_N14 && (nal_type % 2 == 0)

-- whether a picture may be prevTid0Pic of later ones (8.3.1)
abbrev pub is_order_base : ℕ → ℕ → Bool
is_order_base nal_type temporal_id =
    (temporal_id == 0) && not (is_rasl nal_type || (is_radl nal_type || is_sub_layer_non_reference nal_type))
