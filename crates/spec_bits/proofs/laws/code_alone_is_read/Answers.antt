use Rattle.spec_bits.proofs.Codes.{ue_at-other}
use Rattle.spec_bits.proofs.laws.code_alone_is_read.Goals as goal

pub returns : goal.returns
returns c = λ value bs rest other h. ue_at-other bs value rest other h
