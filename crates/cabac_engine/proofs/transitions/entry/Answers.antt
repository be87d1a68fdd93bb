use Rattle.cabac_engine.specs.ContextTable.{entry_of}
use Rattle.cabac_engine.proofs.ContextRules.{entry_small}
use Rattle.cabac_engine.proofs.transitions.entry.Goals as goal

pub returns-clause-small : goal.returns-clause-small
unfolding entry_of
returns-clause-small c = entry_small c.args.i c.requires
