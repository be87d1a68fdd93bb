use Rattle.inter_pred.proofs.Raising.{raised_high, raised_is}
use Rattle.inter_pred.proofs.window.raised.Goals as goal

pub returns-clause-value : goal.returns-clause-value
returns-clause-value c = raised_is c.args.depth c.args.sample c.requires.depth c.requires.small

pub returns-clause-high : goal.returns-clause-high
returns-clause-high c =
    rw (raised_is c.args.depth c.args.sample c.requires.depth c.requires.small)
    (raised_high c.args.depth c.args.sample c.requires.depth c.requires.small)
