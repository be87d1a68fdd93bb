use Rattle.filter_locality_laws.proofs.Rows.{three_steps}
use Rattle.filter_locality_laws.proofs.laws.samples_are_filtered_in_three_steps.Goals as goal

pub returns : goal.returns
returns c = three_steps
