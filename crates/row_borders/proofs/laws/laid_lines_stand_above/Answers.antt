use Rattle.row_borders.proofs.Laid.{laid_above, laid_stays, none_above, none_laid}
use Rattle.row_borders.proofs.laws.laid_lines_stand_above.Goals as goal

pub returns-clause-above : goal.returns-clause-above
returns-clause-above c = laid_above

pub returns-clause-next : goal.returns-clause-next
returns-clause-next c = laid_stays

pub returns-clause-none : goal.returns-clause-none
returns-clause-none c = none_laid

pub returns-clause-top : goal.returns-clause-top
returns-clause-top c = none_above
