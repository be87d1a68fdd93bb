use Rattle.std.proofs.Common.{List, ap}
use Rattle.spec_picture_build.specs.References.{DecodedPicture, pictures_of}
use Rattle.sample_lines.specs.FactsOfFlights.{buffer_of}
use Rattle.sample_lines.proofs.FactsOfFlights.{bases_again}
use Rattle.flight_windows.proofs.laws.bases_are_held_pictures.Goals as goal

pub returns : goal.returns
returns c = λ format facts.
    ap (λ (l : List DecodedPicture). pictures_of format l) (bases_again (buffer_of facts.bases.value))
