use Rattle.spec_bits.proofs.Numbers.{shr_and_one-bit_of}
use Rattle.spec_bits.proofs.plain.bit.Goals as goal

pub returns : goal.returns
returns c = shr_and_one-bit_of c.args.byte c.args.k
