use Rattle.done_units.proofs.Reached.{read_uses_seen, unit_uses_seen}
use Rattle.done_units.proofs.laws.met_needs_are_seen_uses.Goals as goal

pub returns-clause-read : goal.returns-clause-read
returns-clause-read c = λ facts v u reached tree met m y uses. read_uses_seen facts v u reached tree met m y uses

pub returns-clause-unit : goal.returns-clause-unit
returns-clause-unit c = λ facts v u reached met m y uses. unit_uses_seen facts v u reached met m y uses
