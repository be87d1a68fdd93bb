use Rattle.sample_lines.specs.FactsOfFlights.{flight_in}
use Rattle.spec_flights.specs.Pictures.{pictures_before}
use Rattle.taken_pictures.proofs.Held.{samples_there}
use Rattle.taken_pictures.proofs.Places.{sizes_of}
use Rattle.taken_pictures.proofs.laws.planes_hold_their_samples.Goals as goal

pub returns : goal.returns
returns c = λ facts s k p planes is has sides samples.
    let f = flight_in facts in
    samples_there f k p has s (c.pictures_have_the_sizes_of_their_flight.ensures.picture facts s k p is has)
    (sizes_of facts s is) planes sides
    (λ x y z. c.decoded_samples_are_of_the_last_phase.ensures (pictures_before f k) p x y z) samples
