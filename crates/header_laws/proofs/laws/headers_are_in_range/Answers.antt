use Rattle.header_laws.proofs.Headers.{header_in_range}
use Rattle.header_laws.proofs.laws.headers_are_in_range.Goals as goal

pub returns : goal.returns
returns c = header_in_range
