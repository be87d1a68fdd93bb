use Rattle.sample_words.proofs.Carries.{carried_found}
use Rattle.sample_words.proofs.carry.Carry.of_words.Goals as goal

pub returns : goal.returns
returns c = carried_found c.args.words.now c.contexts_in.result c.contexts_in.ensures
