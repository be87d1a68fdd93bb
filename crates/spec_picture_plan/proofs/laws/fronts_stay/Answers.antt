use Rattle.spec_picture_plan.proofs.Fronts.{of_extends}
use Rattle.spec_picture_plan.proofs.laws.fronts_stay.Goals as goal

pub returns : goal.returns
returns c = of_extends
