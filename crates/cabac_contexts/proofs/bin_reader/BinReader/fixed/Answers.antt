use Rattle.std.proofs.Common.{rules}
use Rattle.cabac_contexts.proofs.Bypasses.{fixed_is}
use Rattle.cabac_contexts.proofs.bin_reader.BinReader.fixed.Goals as goal

pub returns-clause-value : goal.returns-clause-value
returns-clause-value c =
    rw (fixed_is c.args.n c.args.self.now.interval c.args.self.now.contexts) (search rules)
