use Rattle.unit_words.proofs.Held.{contexts_held}
use Rattle.unit_words.proofs.done_unit.DoneUnit.pack_contexts.Goals as goal

pub returns : goal.returns
returns c = λ k below. contexts_held c.args.self.now c.pack.result c.requires c.pack.ensures k
