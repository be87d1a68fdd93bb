use Rattle.spec_bits.proofs.Numbers.{shr_and_one-bit_of}
use Rattle.residual_syntax.proofs.remaining.sign_at.Goals as goal

pub returns : goal.returns
returns c = shr_and_one-bit_of c.args.signs c.args.place
