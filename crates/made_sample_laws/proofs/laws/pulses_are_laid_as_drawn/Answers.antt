use Rattle.made_sample_laws.proofs.Pulses.{pulse_unit}
use Rattle.made_sample_laws.proofs.laws.pulses_are_laid_as_drawn.Goals as goal

pub returns : goal.returns
returns c = pulse_unit
