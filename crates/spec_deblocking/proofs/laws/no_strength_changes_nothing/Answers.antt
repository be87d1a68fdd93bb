use Rattle.spec_deblocking.proofs.Unchanged.{vertical_off, horizontal_off, deblocked_off}
use Rattle.spec_deblocking.proofs.laws.no_strength_changes_nothing.Goals as goal

pub returns-clause-vertical : goal.returns-clause-vertical
returns-clause-vertical c = vertical_off

pub returns-clause-horizontal : goal.returns-clause-horizontal
returns-clause-horizontal c = horizontal_off

pub returns-clause-both : goal.returns-clause-both
returns-clause-both c = deblocked_off
