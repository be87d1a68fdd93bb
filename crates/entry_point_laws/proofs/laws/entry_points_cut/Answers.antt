use Rattle.entry_point_laws.proofs.Boundaries.{bytes, payload_found, place}
use Rattle.entry_point_laws.proofs.laws.entry_points_cut.Goals as goal

pub returns : goal.returns
returns c = record { bytes = bytes; before = payload_found; place = place }
