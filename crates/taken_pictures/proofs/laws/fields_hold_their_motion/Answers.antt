use Rattle.sample_lines.specs.FactsOfFlights.{flight_in}
use Rattle.taken_pictures.proofs.Held.{motion_there}
use Rattle.taken_pictures.proofs.Places.{sizes_of}
use Rattle.taken_pictures.proofs.laws.fields_hold_their_motion.Goals as goal

pub returns : goal.returns
returns c = λ facts s k p field is has places motions.
    let f = flight_in facts in
    motion_there f k p has s (c.pictures_have_the_sizes_of_their_flight.ensures.picture facts s k p is has)
    (sizes_of facts s is) field places motions
