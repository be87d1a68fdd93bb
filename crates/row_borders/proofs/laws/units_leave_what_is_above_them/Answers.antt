use Rattle.row_borders.proofs.Later.{above_of_later, laid_of_later}
use Rattle.row_borders.proofs.laws.units_leave_what_is_above_them.Goals as goal

pub returns-clause-above : goal.returns-clause-above
returns-clause-above c = above_of_later

pub returns-clause-laid : goal.returns-clause-laid
returns-clause-laid c = laid_of_later
