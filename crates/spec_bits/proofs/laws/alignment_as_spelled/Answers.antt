use Rattle.spec_bits.proofs.Aligned.{aligned_at-only, aligned_at-aligned_bits}
use Rattle.spec_bits.proofs.laws.alignment_as_spelled.Goals as goal

pub returns : goal.returns
returns c = record {
  found = λ bs rest h. aligned_at-only bs rest h;
  only = λ before rest h. aligned_at-aligned_bits before rest h;
}
