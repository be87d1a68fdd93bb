-- Each picture that is decoded has all its coding tree units.
use Rattle.std.proofs.Common.{[]}
use Rattle.spec_picture_plan.specs.PlanTypes.{PicturePlan}
use Rattle.plan_laws.specs.Plans.{IsPlan}
use Rattle.spec_decoded_pictures.proofs.SpecPictureTreesLemmas.{units_of_picture, units_of_segments}
use Rattle.spec_decoder.specs.Decoder.{HasAllUnits}

pub has_all_units : (p : PicturePlan) → IsPlan p → HasAllUnits p
has_all_units p is read e = record {
  units = units_of_picture p [] read is.order e;
  segments = units_of_segments p [] read is.order e;
}
