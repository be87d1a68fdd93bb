use Rattle.done_units.proofs.Reached.{read_uses_sound, unit_uses_sound}
use Rattle.done_units.proofs.laws.met_needs_are_sound_uses.Goals as goal

pub returns-clause-read : goal.returns-clause-read
returns-clause-read c = λ facts v u reached tree all met. read_uses_sound facts v u reached tree all met

pub returns-clause-unit : goal.returns-clause-unit
returns-clause-unit c = λ facts v u reached all met m y uses. unit_uses_sound facts v u reached all met m y uses
