use Rattle.std.proofs.Common.{Option, ℕ, subst}
use Rattle.board_core.specs.Places.{unit_of}
use Rattle.board_core.specs.States.{IsBefore, opening}
use Rattle.board_core.specs.Runs.{run}
use Rattle.board_core.proofs.Endings.{run_ends, same_least}
use Rattle.board_core.proofs.laws.ending_runs_agree.Goals as goal

pub returns-clause-least : goal.returns-clause-least
returns-clause-least c plan flight events ready ended = run_ends plan events flight ready ended

pub returns-clause-same : goal.returns-clause-same
returns-clause-same c plan flight events ready ended others other_ready other_ended =
    same_least plan _ _ (run_ends plan events flight ready ended) (run_ends plan others flight other_ready other_ended)

pub returns-clause-counted : goal.returns-clause-counted
returns-clause-counted c plan flight events ready ended others other_ready other_ended l x line inside before =
    let same =
    same_least plan (run plan (opening plan) events).least (run plan (opening plan) others).least
    (run_ends plan events flight ready ended) (run_ends plan others flight other_ready other_ended) in
    let P : Option ℕ → Type 0 = λ least. IsBefore (unit_of plan l x) least in
    (ended l x line inside before, other_ended l x line inside (subst P same before))
