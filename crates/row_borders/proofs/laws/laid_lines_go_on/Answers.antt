use Rattle.row_borders.proofs.Laid.{line_grows, line_stays, places_grow}
use Rattle.row_borders.proofs.laws.laid_lines_go_on.Goals as goal

pub returns-clause-samples : goal.returns-clause-samples
returns-clause-samples c picture row old new units component first samples lays =
    line_grows picture row old new units component first samples lays

pub returns-clause-others : goal.returns-clause-others
returns-clause-others c picture row old new units component first samples i end lays =
    line_stays picture row old new units component first samples lays i end

pub returns-clause-places : goal.returns-clause-places
returns-clause-places c = places_grow
