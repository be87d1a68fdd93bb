use Rattle.board_core.specs.States.{opening}
use Rattle.board_core.proofs.Steps.{opening_sound, run_sound}
use Rattle.board_core.proofs.laws.every_run_is_sound.Goals as goal

pub returns : goal.returns
returns c plan flight events ready = run_sound plan (opening plan) events flight (opening_sound plan) ready
