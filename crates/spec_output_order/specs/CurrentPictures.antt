-- What of a picture decides its outputs, by its header and its sequence parameter set (C.5.2.2).
use Rattle.std.specs.Prelude.{ℤ, Bool, false, ◌||◌, ◌==◌, unwrap_or}
use Rattle.hv_base.specs.declared.nal_types.TheConstants.{CRA_NUT}
use Rattle.plan_types.specs.SliceTypes.{SliceHeaderFields}
use Rattle.header_types.specs.declared.sps.SpsFields.{SpsFields}
use Rattle.header_types.specs.SequenceParameterSets.{highest_ordering}
use Rattle.spec_reference_pictures.specs.PictureOrderCount.{begins_anew}
use Rattle.spec_output_order.specs.declared.current_picture.CurrentPicture.{CurrentPicture}

-- NoOutputOfPriorPicsFlag: that of the header, but 1 in a clean random access picture (C.5.2.2)
abbrev pub no_output_of_prior_pics_flag : SliceHeaderFields → Bool
no_output_of_prior_pics_flag header =
    (header.kind.nal_type == CRA_NUT) || unwrap_or header.segment.no_output_of_prior_pics_flag false

-- what of a picture decides its outputs. PicOutputFlag is pic_output_flag, since skipped leading pictures are dropped
abbrev pub current_picture : SliceHeaderFields → SpsFields → ℤ → CurrentPicture
current_picture header sps poc = record {
  poc = poc;
  begins_anew = begins_anew header.kind;
  no_output_of_prior_pics_flag = no_output_of_prior_pics_flag header;
  pic_output_flag = header.slice.pic_output_flag;
  ordering = highest_ordering sps.order.sub_layer_ordering;
}
