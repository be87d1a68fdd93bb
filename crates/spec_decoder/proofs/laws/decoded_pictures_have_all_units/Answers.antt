use Rattle.std.proofs.lemmas.List.Elements.{All-weaker}
use Rattle.spec_picture_plan.specs.Planned.{planned_of}
use Rattle.plan_laws.specs.Plans.{IsPlan}
use Rattle.plan_laws.proofs.Stream.{planned_in_range}
use Rattle.spec_decoder.specs.Decoder.{HasAllUnits}
use Rattle.spec_decoder.proofs.Units.{has_all_units}
use Rattle.spec_decoder.proofs.laws.decoded_pictures_have_all_units.Goals as goal

pub returns : goal.returns
returns c = λ ended bytes. All-weaker IsPlan HasAllUnits has_all_units (planned_of ended bytes).pictures
    (planned_in_range ended bytes)
