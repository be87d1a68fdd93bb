use Rattle.flight_unit_laws.proofs.SoundRows.{all_sound}
use Rattle.flight_unit_laws.proofs.laws.units_are_sound_where_needs_are.Goals as goal

pub returns : goal.returns
returns c = all_sound
