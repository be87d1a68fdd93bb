use Rattle.spec_bits.proofs.Codes.{leading_zero_bits_of-digits}
use Rattle.spec_bits.proofs.laws.code_has_few_zeros.Goals as goal

pub returns : goal.returns
returns c = λ value h. let digits = leading_zero_bits_of-digits value h in (digits.low, digits.high)
