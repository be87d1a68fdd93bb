use Rattle.std.proofs.lemmas.Option.{slice_get_within}
use Rattle.taken_pictures.specs.FlightFacts.{flight_in}
use Rattle.progress_words.specs.Passes.{view}
use Rattle.taken_pictures.proofs.Pictures.{picture_inside}
use Rattle.taken_flights.proofs.Broken.{broken_of}
use Rattle.taken_flights.proofs.Passes.{looked_still}
use Rattle.taken_flights.proofs.shares.take_part.Goals as goal

pub see_picture-requires-clause-picture : goal.see_picture-requires-clause-picture
see_picture-requires-clause-picture g c =
    picture_inside c.args.board.now.flight c.args.layout.now c.args.picture c.args.plan.now c.requires.may.flight
    c.requires.picture

pub returns-in-Ready-clause-looked : goal.returns-in-Ready-clause-looked
returns-in-Ready-clause-looked g c =
    looked_still {q = c.see_picture.new.pass}
    (record {
      own = c.see_picture.ensures.own;
      known = c.see_picture.ensures.known;
      kept = c.see_picture.ensures.kept;
    })
    c.take_picture.ensures.same

pub returns-in-Stopped-clause-stopped : goal.returns-in-Stopped-clause-stopped
returns-in-Stopped-clause-stopped g c = λ is.
    let told = c.see_picture.ensures.stopped c.in-Stopped.is in
    broken_of c.args.board.now.flight c.args.layout.now c.args.picture (view c.see_picture.new.pass).least
    c.requires.may.flight
    (slice_get_within (flight_in c.args.board.now.flight).pictures c.args.picture c.args.plan.now c.requires.picture)
    told.0 told.1
