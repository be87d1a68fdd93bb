use Rattle.spec_sample_adaptive_offset.proofs.Bands.{these, others}
use Rattle.spec_sample_adaptive_offset.proofs.laws.bands_are_four_from_the_position.Goals as goal

pub returns : goal.returns
returns c = record { these = these; others = others }
