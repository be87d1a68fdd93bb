use Rattle.spec_bits.proofs.Signed.{se_at-only, se_at-se_bits}
use Rattle.spec_bits.proofs.laws.signed_exp_golomb_as_spelled.Goals as goal

pub returns : goal.returns
returns c = record {
  found = λ value bs rest h. se_at-only bs value rest h;
  only = λ value rest h. se_at-se_bits value rest h;
}
