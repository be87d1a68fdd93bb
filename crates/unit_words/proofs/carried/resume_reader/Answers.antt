use Rattle.std.proofs.Common.{ap}
use Rattle.sample_words.specs.declared.carry.Carry.{Carry}
use Rattle.unit_words.proofs.Resumed.{resumed}
use Rattle.unit_words.proofs.carried.resume_reader.Goals as goal

pub returns-clause-value : goal.returns-clause-value
returns-clause-value c = λ reader reads e.
    resumed c.args.carry.now c.resume.result c.unpack.result reader reads.contexts e
    (c.resume.ensures.value reader.bins.interval reads.bits reads.inside (ap (λ (x : Carry). x.state) e))
    c.unpack.ensures
