use Rattle.std.proofs.Common.{arith}
use Rattle.residual_transform.proofs.Bounds.{quantizer_small}
use Rattle.residual_transform.proofs.scaling.quantizer.Goals as goal

pub returns-clause-small : goal.returns-clause-small
returns-clause-small c =
    let small = quantizer_small c.args.qp c.from.result c.requires c.from.ensures in omega (arith, small)
