use Rattle.std.proofs.Common.{List, ap}
use Rattle.flight_plan.specs.declared.row_range.Reference.{Reference}
use Rattle.spec_picture_build.specs.References.{pictures_of}
use Rattle.sample_lines.specs.FactsOfFlights.{flight_in}
use Rattle.flight_windows.specs.Pictures.{pictures_named}
use Rattle.flight_windows.proofs.Bases.{small_pictures}
use Rattle.flight_windows.proofs.windows.FlightWindows.new.Goals as goal

pub invariant_of-result : goal.invariant_of-result
invariant_of-result g c = (
  record { own = c.requires.own; flight = c.requires.flight; rows = c.requires.seen },
  c.requires.bases,
  c.requires.known,
)

pub returns-clause-pictures : goal.returns-clause-pictures
returns-clause-pictures g c = λ k names.
    ap (λ (n : List Reference). pictures_of c.args.sps.now.format
    (pictures_named (flight_in c.args.board.now.flight) c.args.seen.now n)) names

pub returns-clause-small : goal.returns-clause-small
returns-clause-small g c = λ format depths.
    small_pictures c.args.sps.now format
    (pictures_named (flight_in c.args.board.now.flight) c.args.seen.now c.args.names.now) depths
