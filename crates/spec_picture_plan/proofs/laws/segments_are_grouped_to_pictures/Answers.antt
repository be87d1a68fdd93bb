use Rattle.spec_picture_plan.proofs.Grouping.{are_grouped}
use Rattle.spec_picture_plan.proofs.laws.segments_are_grouped_to_pictures.Goals as goal

pub returns : goal.returns
returns c = are_grouped
