use Rattle.spec_bits.proofs.CodeNum.{ue_at-code_num_at}
use Rattle.spec_bits.proofs.laws.code_num_is_as_written.Goals as goal

pub returns : goal.returns
returns c = λ bs. ue_at-code_num_at bs
