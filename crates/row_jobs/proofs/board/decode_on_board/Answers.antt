use Rattle.std.proofs.Common.{◌≡◌, ◌++◌, List, ap, arith, drop, length, subst, sym, take, ◌∙◌}
use Rattle.flight_ranges.specs.PictureBuild.{buffer_of}
use Rattle.sample_words.specs.declared.sizes.FlightSizes.{FlightSizes}
use Rattle.row_workers.specs.SpecFlights.{PlannedFlight}
use Rattle.row_workers.specs.SpecFlights.{flight_rows}
use Rattle.flight_lines.specs.Flights.{IsSized}
use Rattle.flight_ranges.specs.FlightFacts.{flight_of}
use Rattle.flight_ranges.specs.FlightFacts.{flight_in}
use Rattle.flight_results.specs.Stopped.{TellsStop}
use Rattle.taken_flights.specs.Taken.{AreSized, Part}
use Rattle.row_jobs.specs.Boards.{ArePictures, IsWorkedOff}
use Rattle.row_jobs.proofs.Boards.{are_parts, lent_back, on_board}
use Rattle.row_jobs.proofs.board.decode_on_board.Goals as goal

pub work_off_flight-requires-clause-parts : goal.work_off_flight-requires-clause-parts
work_off_flight-requires-clause-parts g c κs within =
    let plans = c.as_slice-plans.result.now in
    are_parts (flight_in c.of-facts.result) (flight_of c.args.flight.now (buffer_of c.args.bases.now))
    c.of-facts.ensures plans c.as_slice-plans.ensures c.as_mut_slice.result.now
    (ap length c.as_mut_slice.ensures.value ∙ c.in_ok-parts.ensures.count)
    (subst (λ (parts : List Part). AreSized plans parts) (sym c.as_mut_slice.ensures.value) c.in_ok-parts.ensures.sized)

pub pictures_of-requires-clause-sized : goal.pictures_of-requires-clause-sized
pictures_of-requires-clause-sized g c =
    let plans = c.as_slice-plans.result.now in
    let lent = c.as_mut_slice.result.now in
    let items = c.in_ok-parts.parts.items in
    let taken = c.work_off_flight.new.parts in
    let worked : IsWorkedOff (flight_in c.of-facts.result) plans lent taken c.in_ok-word.word = c.in_ok-word.ensures in
    let lent_is : length lent ≡ length items = ap length c.as_mut_slice.ensures.value in
    let len = c.as_mut_slice.ensures.len in
    let back : take c.in_ok-parts.parts.len (taken ++ drop (length taken) items) ≡ taken =
    lent_back items taken c.in_ok-parts.parts.len (worked.as_many ∙ lent_is) (omega (arith, len, lent_is)) in
    subst (λ (parts : List Part). AreSized plans parts) (sym back) worked.sized

pub returns : goal.returns
returns g c =
    let f : PlannedFlight = flight_in c.of-facts.result in
    let h : PlannedFlight = flight_of c.args.flight.now (buffer_of c.args.bases.now) in
    let plans = c.as_slice-plans.result.now in
    let lent = c.as_mut_slice.result.now in
    let items = c.in_ok-parts.parts.items in
    let taken = c.work_off_flight.new.parts in
    let word = c.in_ok-word.word in
    let count = c.stop_of-stop.result.count in
    let worked : IsWorkedOff f plans lent taken word = c.in_ok-word.ensures in
    let lent_is : length lent ≡ length items = ap length c.as_mut_slice.ensures.value in
    let len = c.as_mut_slice.ensures.len in
    let back : take c.in_ok-parts.parts.len (taken ++ drop (length taken) items) ≡ taken =
    lent_back items taken c.in_ok-parts.parts.len (worked.as_many ∙ lent_is) (omega (arith, len, lent_is)) in
    let are : ArePictures plans taken count c.in_ok-pictures.pictures =
    subst (λ (parts : List Part). ArePictures plans parts count c.in_ok-pictures.pictures) back
    c.in_ok-pictures.ensures in
    let sized : IsSized (flight_rows h) c.args.layout =
    subst (λ (s : FlightSizes). IsSized (flight_rows h) s) (sym c.requires.laid.sizes)
    (c.flights_lie_on_boards.ensures.board h c.requires.laid.planned).sized in
    let tells : TellsStop h word = subst (λ (k : PlannedFlight). TellsStop k word) c.of-facts.ensures worked.tells in
    on_board f h c.of-facts.ensures plans c.as_slice-plans.ensures lent taken word count c.stop_of-stop.result.fault
    c.in_ok-pictures.pictures (lent_is ∙ c.in_ok-parts.ensures.count) worked
    (c.stop_of-stop.ensures h (sym c.as_slice-plans.ensures) sized tells) are c.held_pictures_are_decoded.ensures
