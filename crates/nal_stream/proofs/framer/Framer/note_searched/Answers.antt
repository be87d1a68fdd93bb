use Rattle.spec_nal_units.proofs.Ends.{unit_end-nowhere}
use Rattle.nal_stream.specs.Framing.{pending}
use Rattle.nal_stream.proofs.framer.Framer.note_searched.Goals as goal

pub invariant_of-self-clause-no_end : goal.invariant_of-self-clause-no_end
invariant_of-self-clause-no_end c = λ j lt. unit_end-nowhere (pending c.args.self.now) j c.requires
