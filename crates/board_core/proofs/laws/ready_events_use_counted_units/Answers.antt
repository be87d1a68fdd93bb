use Rattle.board_core.specs.States.{opening}
use Rattle.board_core.specs.Runs.{run}
use Rattle.board_core.proofs.Steps.{opening_sound, run_sound}
use Rattle.board_core.proofs.Using.{counted_uses, ready_uses, taps_used}
use Rattle.board_core.proofs.laws.ready_events_use_counted_units.Goals as goal

pub returns-clause-ready : goal.returns-clause-ready
returns-clause-ready c plan flight events all event ready m y uses =
    ready_uses plan (run plan (opening plan) events) event m y ready uses

pub returns-clause-counted : goal.returns-clause-counted
returns-clause-counted c plan flight events all l x line lt m y uses =
    counted_uses plan (run plan (opening plan) events) l x m y
    (run_sound plan (opening plan) events flight (opening_sound plan) all) line lt uses

pub returns-clause-taps : goal.returns-clause-taps
returns-clause-taps c plan flight motion tells l x line inside block has picture row named reads =
    taps_used plan motion l x block picture row flight tells line inside has named reads
