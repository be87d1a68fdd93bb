use Rattle.locality_laws.proofs.Lines.{chroma_block_same}
use Rattle.locality_laws.proofs.laws.chroma_samples_depend_on_their_lines.Goals as goal

pub returns : goal.returns
returns c = chroma_block_same
