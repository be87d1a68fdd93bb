use Rattle.std.proofs.Common.{◌∙◌}
use Rattle.unit_words.proofs.Resumed.{contexts_found}
use Rattle.unit_words.proofs.carried.unpack_contexts.Goals as goal

pub returns : goal.returns
returns c = λ contexts are is. c.unpack.ensures ∙ contexts_found c.args.words contexts are is
