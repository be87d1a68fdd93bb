use Rattle.spec_bits.proofs.Digits.{u_at-only, u_at-u_bits}
use Rattle.spec_bits.proofs.laws.unsigned_as_spelled.Goals as goal

pub returns : goal.returns
returns c = record {
  found = λ n value bs rest h. u_at-only n bs value rest h;
  only = λ n value rest h. u_at-u_bits n value rest h;
}
