use Rattle.std.proofs.Common.{arith}
use Rattle.deblock.proofs.filters.strong.Goals as goal

pub returns-clause-small : goal.returns-clause-small
returns-clause-small c = record {
  p3 = c.requires.line.p3;
  p2 = c.held.ensures.few c.args.greatest (omega arith) c.requires.line.p2;
  p1 = c.held-2.ensures.few c.args.greatest (omega arith) c.requires.line.p1;
  p0 = c.held-3.ensures.few c.args.greatest (omega arith) c.requires.line.p0;
  q0 = c.held-4.ensures.few c.args.greatest (omega arith) c.requires.line.q0;
  q1 = c.held-5.ensures.few c.args.greatest (omega arith) c.requires.line.q1;
  q2 = c.held-6.ensures.few c.args.greatest (omega arith) c.requires.line.q2;
  q3 = c.requires.line.q3;
}
