use Rattle.board_core.specs.States.{opening}
use Rattle.board_core.specs.Runs.{run}
use Rattle.board_core.proofs.Soundness.{found_first, run_counts_sound, run_least}
use Rattle.board_core.proofs.laws.counted_units_are_sound.Goals as goal

pub returns-clause-counted : goal.returns-clause-counted
returns-clause-counted c plan flight sound closed events all l x line lt =
    run_counts_sound plan sound events flight closed all l x line lt

pub returns-clause-found : goal.returns-clause-found
returns-clause-found c plan flight sound closed events all u ready =
    found_first plan sound (run plan (opening plan) events) u
    (run_counts_sound plan sound events flight closed all) ready

pub returns-clause-least : goal.returns-clause-least
returns-clause-least c plan flight sound closed events all = run_least plan sound events flight closed all
