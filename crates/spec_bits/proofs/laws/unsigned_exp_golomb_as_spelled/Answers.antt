use Rattle.spec_bits.proofs.Codes.{ue_at-only, ue_at-ue_bits}
use Rattle.spec_bits.proofs.laws.unsigned_exp_golomb_as_spelled.Goals as goal

pub returns : goal.returns
returns c = record {
  found = λ value bs rest h. ue_at-only bs value rest h;
  only = λ value rest h. ue_at-ue_bits value rest h;
}
