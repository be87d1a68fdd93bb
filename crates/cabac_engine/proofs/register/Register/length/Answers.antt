use Rattle.std.proofs.Common.{sym}
use Rattle.spec_bits.proofs.Places.{length-bits}
use Rattle.cabac_engine.proofs.register.Register.length.Goals as goal

pub returns-clause-value : goal.returns-clause-value
returns-clause-value c = rw (← c.self.view_is) (sym (length-bits c.self.inside.bytes.now))
