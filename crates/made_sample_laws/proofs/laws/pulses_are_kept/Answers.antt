use Rattle.made_sample_laws.proofs.KeptUnits.{pulses_kept}
use Rattle.made_sample_laws.proofs.laws.pulses_are_kept.Goals as goal

pub returns : goal.returns
returns c = pulses_kept
