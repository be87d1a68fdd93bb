use Rattle.std.proofs.Common.{All, List, subst, sym}
use Rattle.flight_ranges.specs.FlightFacts.{FlightFacts}
use Rattle.flight_ranges.specs.FlightFacts.{flight_in}
use Rattle.row_workers.specs.declared.row_worker.RowWorker.{RowWorker}
use Rattle.taken_flights.specs.Taken.{AreTaken}
use Rattle.row_jobs.specs.Boards.{IsFaultWord, MayBegin}
use Rattle.row_jobs.proofs.Boards.{worked_off}
use Rattle.row_jobs.proofs.board.work_off_flight.Goals as goal

pub work_and_take-pass-requires-clause-others : goal.work_and_take-pass-requires-clause-others
work_and_take-pass-requires-clause-others g c κs within =
    subst (λ (ws : List RowWorker). All (MayBegin c.args.views.now) ws) (sym c.as_mut_slice.ensures.value)
    c.in_ok-others.ensures.ready

pub returns : goal.returns
returns g c =
    let word = c.close_board.result in
    let taken = c.work_and_take-pass.new.parts in
    let count = c.work_and_take-pass.result.count in
    let fault : IsFaultWord (flight_in c.args.facts.now) word =
    subst (λ (facts : FlightFacts). IsFaultWord (flight_in facts) word) c.in_ok-board.ensures.board
    c.close_board.ensures in
    let are : AreTaken (flight_in c.args.facts.now) 0 c.args.plans.now c.args.parts.now taken count =
    subst (λ (facts : FlightFacts). AreTaken (flight_in facts) 0 c.args.plans.now c.args.parts.now taken count)
    c.in_ok-board.ensures.board c.work_and_take-pass.ensures.taken in
    worked_off (flight_in c.args.facts.now) word fault
    (c.closed_boards_tell_where_decoding_stops.ensures (flight_in c.args.facts.now)) c.args.plans.now
    c.args.parts.now taken count are
    (λ words picture. c.decoding_stops_where_taking_stops.ensures c.args.facts.now c.args.views.now.layout words picture
    c.requires.view.flight)
