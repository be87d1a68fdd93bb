use Rattle.std.proofs.Common.{arith}
use Rattle.inter_pred.proofs.Bases.{chroma_1, chroma_2, chroma_3, chroma_4, chroma_5, chroma_6, chroma_7}
use Rattle.inter_pred.proofs.sums.chroma_sum_16.Goals as goal

pub returns-in-1-clause-value : goal.returns-in-1-clause-value
returns-in-1-clause-value g c = rw (c.in-1.is) (chroma_1 c.args.base c.args.a c.args.b c.args.c c.args.d (omega arith))

pub returns-in-2-clause-value : goal.returns-in-2-clause-value
returns-in-2-clause-value g c = rw (c.in-2.is) (chroma_2 c.args.base c.args.a c.args.b c.args.c c.args.d (omega arith))

pub returns-in-3-clause-value : goal.returns-in-3-clause-value
returns-in-3-clause-value g c = rw (c.in-3.is) (chroma_3 c.args.base c.args.a c.args.b c.args.c c.args.d (omega arith))

pub returns-in-4-clause-value : goal.returns-in-4-clause-value
returns-in-4-clause-value g c = rw (c.in-4.is) (chroma_4 c.args.base c.args.a c.args.b c.args.c c.args.d (omega arith))

pub returns-in-5-clause-value : goal.returns-in-5-clause-value
returns-in-5-clause-value g c = rw (c.in-5.is) (chroma_5 c.args.base c.args.a c.args.b c.args.c c.args.d (omega arith))

pub returns-in-6-clause-value : goal.returns-in-6-clause-value
returns-in-6-clause-value g c = rw (c.in-6.is) (chroma_6 c.args.base c.args.a c.args.b c.args.c c.args.d (omega arith))

pub returns-in_default-clause-value : goal.returns-in_default-clause-value
returns-in_default-clause-value g c =
    chroma_7 g.row.Q c.args.base c.args.a c.args.b c.args.c c.args.d (omega arith) (omega arith)
