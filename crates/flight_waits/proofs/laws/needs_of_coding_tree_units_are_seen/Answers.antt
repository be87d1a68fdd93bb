use Rattle.flight_waits.proofs.Needed.{unit_met}
use Rattle.flight_waits.proofs.laws.needs_of_coding_tree_units_are_seen.Goals as goal

pub returns : goal.returns
returns c = unit_met
