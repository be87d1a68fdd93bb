use Rattle.spec_loop_filters.proofs.Unchanged.{final_same}
use Rattle.spec_loop_filters.proofs.laws.no_strength_and_no_offset_changes_nothing.Goals as goal

pub returns : goal.returns
returns c = final_same
