use Rattle.spec_stated_hashes.proofs.Written.{stated_first}
use Rattle.spec_stated_hashes.proofs.laws.written_hashes_are_stated.Goals as goal

pub returns : goal.returns
returns c = stated_first
