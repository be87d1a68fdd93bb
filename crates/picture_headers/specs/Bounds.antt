-- How many pictures the buffer holds behind a picture.
use Rattle.std.specs.Prelude.{◌≡◌, ◌≤◌, false, List, length}
use Rattle.header_types.specs.declared.reference_pictures.DpbPicture.{DpbPicture}
use Rattle.header_types.specs.declared.reference_pictures.Mark.{Mark}
use Rattle.slice_types.specs.declared.slice.PictureKind.{PictureKind}
use Rattle.header_types.specs.declared.sps.SpsFields.{SpsFields}
use Rattle.header_types.specs.SequenceParameterSets.{highest_ordering}
use Rattle.spec_reference_pictures.specs.PictureOrderCount.{begins_anew}
use Rattle.output_order.specs.SpecOutputOrder.{is_full_of_references, size_of}
use Rattle.plan_types.specs.declared.picture_plan.PicturePlan.{PicturePlan}

-- behind a picture of this kind and sequence parameter set, which marks the buffer's pictures so, the buffer holds no
-- more than it may, where it has room for the picture
abbrev pub Fits : PictureKind → SpsFields → List Mark → List DpbPicture → Type 0
Fits kind sps marks dpb =
    is_full_of_references (begins_anew kind) (highest_ordering sps.order.sub_layer_ordering) marks ≡ false
    → length dpb ≤ size_of (highest_ordering sps.order.sub_layer_ordering)

abbrev pub KeepsFew : PicturePlan → Type 0
KeepsFew p = Fits p.kind p.sps p.rps.marks p.outputs.dpb

-- the buffer behind a picture holds no more than it may, which is 16 at most
pub record IsWithinSize (p : PicturePlan) : Type 0 where
  pub size : length p.outputs.dpb ≤ size_of (highest_ordering p.sps.order.sub_layer_ordering)
  pub few : length p.outputs.dpb ≤ 16
