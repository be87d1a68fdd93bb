use Rattle.known_picture_laws.proofs.Segments.{has_segment}
use Rattle.known_picture_laws.proofs.laws.known_units_have_segments.Goals as goal

pub returns : goal.returns
returns c = has_segment
