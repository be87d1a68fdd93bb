use Rattle.flight_waits.proofs.FactsOfFlights.{board_sizes}
use Rattle.flight_workers.proofs.work.work.Goals as goal

pub draw_line-requires-clause-flight : goal.draw_line-requires-clause-flight
draw_line-requires-clause-flight g c = board_sizes c.args.board.now.flight c.args.layout.now c.requires.may.flight
