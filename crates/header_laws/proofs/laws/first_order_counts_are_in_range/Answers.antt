use Rattle.header_laws.proofs.Headers.{first_lsb_in_range}
use Rattle.header_laws.proofs.laws.first_order_counts_are_in_range.Goals as goal

pub returns : goal.returns
returns c = first_lsb_in_range
