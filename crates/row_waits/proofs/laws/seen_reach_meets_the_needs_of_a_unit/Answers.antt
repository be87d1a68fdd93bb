use Rattle.row_waits.proofs.Needed.{final_seen, needs_met}
use Rattle.row_waits.proofs.laws.seen_reach_meets_the_needs_of_a_unit.Goals as goal

pub returns-clause-needs : goal.returns-clause-needs
returns-clause-needs c facts s is v seen are source items l x told all =
    needs_met facts s is v seen are source items l x told all

pub returns-clause-rows : goal.returns-clause-rows
returns-clause-rows c facts s is v seen are source items l x told all =
    final_seen facts s is v seen are source items l x told all
