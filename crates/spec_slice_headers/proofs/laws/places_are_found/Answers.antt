use Rattle.spec_slice_headers.proofs.Cuts.{find, reach}
use Rattle.spec_slice_headers.proofs.laws.places_are_found.Goals as goal

pub returns-clause-place : goal.returns-clause-place
returns-clause-place c = find

pub returns-clause-size : goal.returns-clause-size
returns-clause-size c = λ unit i two h. reach unit i two
