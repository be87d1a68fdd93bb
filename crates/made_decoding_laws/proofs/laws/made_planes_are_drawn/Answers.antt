use Rattle.made_decoding_laws.proofs.Hashes.{drawn_hash, drawn_plane}
use Rattle.made_decoding_laws.proofs.laws.made_planes_are_drawn.Goals as goal

pub returns-clause-samples : goal.returns-clause-samples
returns-clause-samples c = drawn_plane

pub returns-clause-hash : goal.returns-clause-hash
returns-clause-hash c = drawn_hash
