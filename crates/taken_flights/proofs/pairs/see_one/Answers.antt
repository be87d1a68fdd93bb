use Rattle.std.proofs.lemmas.Option.{slice_get_within}
use Rattle.taken_pictures.specs.FlightFacts.{flight_in}
use Rattle.progress_words.specs.Passes.{view}
use Rattle.taken_pictures.proofs.Pictures.{picture_inside}
use Rattle.taken_flights.proofs.Broken.{broken_of}
use Rattle.taken_flights.proofs.pairs.see_one.Goals as goal

pub see_picture-requires-clause-picture : goal.see_picture-requires-clause-picture
see_picture-requires-clause-picture g c =
    picture_inside c.args.board.now.flight c.args.layout.now c.args.picture c.args.plan.now c.requires.may.flight
    c.requires.picture

pub returns-clause-looked : goal.returns-clause-looked
returns-clause-looked g c =
    record {
      own = c.see_picture.ensures.own;
      known = c.see_picture.ensures.known;
      kept = c.see_picture.ensures.kept;
    }

pub returns-clause-ready : goal.returns-clause-ready
returns-clause-ready g c = λ is.
    record {
      look = record {
        flight = c.requires.may.flight;
        own = c.see_picture.ensures.own;
        known = c.see_picture.ensures.known;
      };
      picture = c.requires.picture;
      seen = c.see_picture.ensures.ready is;
    }

pub returns-clause-stopped : goal.returns-clause-stopped
returns-clause-stopped g c = λ is.
    let told = c.see_picture.ensures.stopped is in
    broken_of c.args.board.now.flight c.args.layout.now c.args.picture
    (view c.see_picture.new.pass).least c.requires.may.flight
    (slice_get_within (flight_in c.args.board.now.flight).pictures c.args.picture c.args.plan.now c.requires.picture)
    told.0 told.1
