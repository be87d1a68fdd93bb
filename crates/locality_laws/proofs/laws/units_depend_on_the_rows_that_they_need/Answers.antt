use Rattle.locality_laws.proofs.Needed.{needed_same}
use Rattle.locality_laws.proofs.laws.units_depend_on_the_rows_that_they_need.Goals as goal

pub returns : goal.returns
returns c format inter picture ctb_log2 a b items known some agree =
    needed_same format inter picture ctb_log2 a b some items known agree
