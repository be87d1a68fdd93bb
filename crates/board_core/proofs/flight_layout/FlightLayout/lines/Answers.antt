use Rattle.std.proofs.Common.{◌∙◌, ap}
use Rattle.board_core.specs.Places.{lines_of}
use Rattle.board_core.proofs.flight_layout.FlightLayout.lines.Goals as goal

pub returns : goal.returns
returns c = c.self.invariant.3 ∙ ap lines_of c.self.view_is
