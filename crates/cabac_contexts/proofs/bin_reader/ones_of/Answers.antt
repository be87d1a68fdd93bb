use Rattle.cabac_contexts.proofs.Prefixed.{counted}
use Rattle.cabac_contexts.proofs.bin_reader.ones_of.Goals as goal

pub overflow_sub-result-2 : goal.overflow_sub-result-2
overflow_sub-result-2 c = (counted c.args.bins c.requires).least

pub returns-clause-told : goal.returns-clause-told
returns-clause-told c = (counted c.args.bins c.requires).told
