use Rattle.cabac_engine.proofs.Reciprocals.{quotient_is, reciprocal_of}
use Rattle.cabac_engine.proofs.quotients.short_quotient.Goals as goal

pub returns : goal.returns
returns c =
    rw (c.from.ensures, c.reciprocal.ensures)
    (quotient_is c.args.number _ c.args.range c.requires.small c.requires.low c.requires.high
    (reciprocal_of c.args.range c.requires.low c.requires.high))
