use Rattle.spec_loop_filters.proofs.Ranges.{final_small}
use Rattle.spec_loop_filters.proofs.laws.filtered_samples_are_in_range.Goals as goal

pub returns : goal.returns
returns c = final_small
