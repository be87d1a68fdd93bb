use Rattle.spec_bits.proofs.Digits.{flag_at-u_at}
use Rattle.spec_bits.proofs.laws.flag_is_one_bit.Goals as goal

pub returns : goal.returns
returns c = λ flag bs rest. flag_at-u_at flag bs rest
