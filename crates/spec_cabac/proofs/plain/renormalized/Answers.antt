use Rattle.spec_cabac.proofs.Renormalization.{renormalized_live}
use Rattle.spec_cabac.proofs.plain.renormalized.Goals as goal

pub returns-clause-live : goal.returns-clause-live
returns-clause-live c =
    renormalized_live c.args.range c.args.offset c.in_ok-more.more c.doublings-n.result _ _ c.requires.low
    c.requires.high c.requires.below c.doublings-n.ensures.value c.in_ok-more.ensures.small
