use Rattle.hv_bits.proofs.RoundTrip.{fields_back}
use Rattle.hv_bits.proofs.laws.fields_read_back.Goals as goal

pub returns : goal.returns
returns c = λ fields bytes free range is. fields_back fields bytes free range is
