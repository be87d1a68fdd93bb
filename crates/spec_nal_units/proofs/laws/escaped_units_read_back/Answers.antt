use Rattle.spec_nal_units.proofs.Escaping.{read_back, clean-unit_with, unit-unit_with}
use Rattle.spec_nal_units.proofs.laws.escaped_units_read_back.Goals as goal

pub returns : goal.returns
returns c = record { same = read_back; clean = clean-unit_with; unit = unit-unit_with }
