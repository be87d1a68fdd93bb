use Rattle.spec_bits.proofs.Bytes.{bits-nil, bits-cons}
use Rattle.spec_bits.proofs.laws.bytes_as_spelled.Goals as goal

pub returns : goal.returns
returns c = record {
  none = bits-nil;
  more = λ byte bytes. bits-cons byte bytes;
}
