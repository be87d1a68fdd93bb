use Rattle.std.proofs.Common.{arith}
use Rattle.inter_pred.proofs.Bases.{luma_1, luma_2, luma_3}
use Rattle.inter_pred.proofs.sums.luma_sum_16.Goals as goal

pub returns-in-1-clause-value : goal.returns-in-1-clause-value
returns-in-1-clause-value g c =
    rw (c.in-1.is) (luma_1 c.args.base c.args.a c.args.b c.args.c c.args.d c.args.e c.args.f c.args.g c.args.h
    (omega arith))

pub returns-in-2-clause-value : goal.returns-in-2-clause-value
returns-in-2-clause-value g c =
    rw (c.in-2.is) (luma_2 c.args.base c.args.a c.args.b c.args.c c.args.d c.args.e c.args.f c.args.g c.args.h
    (omega arith))

pub returns-in_default-clause-value : goal.returns-in_default-clause-value
returns-in_default-clause-value g c =
    luma_3 g.row.Q c.args.base c.args.a c.args.b c.args.c c.args.d c.args.e c.args.f c.args.g c.args.h (omega arith)
    (omega arith)
