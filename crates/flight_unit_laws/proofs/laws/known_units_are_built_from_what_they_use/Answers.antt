use Rattle.flight_unit_laws.proofs.Halves.{halves_before}
use Rattle.flight_unit_laws.proofs.Reaching.{built_from_uses}
use Rattle.flight_unit_laws.proofs.laws.known_units_are_built_from_what_they_use.Goals as goal

pub returns : goal.returns
returns c f planned k row x p has row_inside inside known s g others is of own buffers =
    built_from_uses f planned k row x p has row_inside inside others buffers (halves_before f planned k) known is s of g
    own
