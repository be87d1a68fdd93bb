use Rattle.std.proofs.Common.{arith}
use Rattle.locality_laws.proofs.Whole.{samples_are_steps}
use Rattle.locality_laws.proofs.Widths.{some_units}
use Rattle.header_types.specs.SequenceParameterSets.{ctb_log2}
use Rattle.locality_laws.proofs.laws.samples_are_their_steps.Goals as goal

pub returns : goal.returns
returns c buffer others p before later unit s g m component x y sps =
    samples_are_steps buffer others p before later unit s m (ctb_log2 p.sps.blocks) g component x y (some_units p sps)
    (omega (arith, sps.blocks.least_ctb))
