use Rattle.std.proofs.Common.{◌≡◌, ℕ, ◌+◌, Some, length, refl, arith, slice_get, subst}
use Rattle.std.proofs.lemmas.Option.{slice_get-get_or, slice_get_read}
use Rattle.taken_pictures.specs.FlightFacts.{flight_in}
use Rattle.taken_flights.specs.Taken.{IsBroken, IsDecoded}
use Rattle.taken_flights.proofs.Parts.{all_taken, none_taken, one_more, taken_to}
use Rattle.taken_flights.proofs.fan.take_last.Goals as goal

pub take_by_two-requires-clause-picture : goal.take_by_two-requires-clause-picture
take_by_two-requires-clause-picture g c =
    let one = c.requires.one in
    let count = c.requires.parts.count in
    let place : c.args.picture + 0 ≡ c.args.picture = omega arith in
    subst (λ n. slice_get (flight_in c.args.board.now.flight).pictures n ≡ Some c.index-plans-0.result) place
    (c.requires.parts.planned 0 c.index-plans-0.result
    (slice_get_read c.args.plans.now (length c.args.plans.now) 0 c.index-plans-0.result refl
    (omega (arith, count, one)) c.index-plans-0.is))

pub take_by_two-requires-clause-sized : goal.take_by_two-requires-clause-sized
take_by_two-requires-clause-sized g c =
    let one = c.requires.one in
    let count = c.requires.parts.count in
    c.requires.parts.sized 0 c.index-plans-0.result _
    (slice_get_read c.args.plans.now (length c.args.plans.now) 0 c.index-plans-0.result refl
    (omega (arith, count, one)) c.index-plans-0.is)
    (slice_get-get_or c.args.parts.now 0 c.index-parts-0.result (omega (arith, one)))

pub returns-in-Ready-clause-taken : goal.returns-in-Ready-clause-taken
returns-in-Ready-clause-taken g c =
    let f = flight_in c.args.board.now.flight in
    let one = c.requires.one in
    let count = c.requires.parts.count in
    let place : c.args.picture ≡ c.args.picture + 0 = omega arith in
    all_taken
    (one_more (none_taken c.requires.parts) (omega (arith, one))
    (slice_get_read c.args.plans.now (length c.args.plans.now) 0 c.index-plans-0.result refl
    (omega (arith, count, one)) c.index-plans-0.is)
    c.take_by_two.ensures.sized
    (subst (λ (n : ℕ). IsDecoded f n c.index-plans-0.result c.take_by_two.new.part) place
    (c.take_by_two.ensures.ready c.in-Ready.is)))
    refl (omega (arith, one))

pub returns-in-Stopped-clause-taken : goal.returns-in-Stopped-clause-taken
returns-in-Stopped-clause-taken g c =
    let f = flight_in c.args.board.now.flight in
    let one = c.requires.one in
    let count = c.requires.parts.count in
    let place : c.args.picture ≡ c.args.picture + 0 = omega arith in
    taken_to (none_taken c.requires.parts)
    (slice_get_read c.args.plans.now (length c.args.plans.now) 0 c.index-plans-0.result refl
    (omega (arith, count, one)) c.index-plans-0.is)
    c.take_by_two.ensures.sized
    (subst (λ (n : ℕ). IsBroken f n) place (c.take_by_two.ensures.stopped c.in-Stopped.is))
