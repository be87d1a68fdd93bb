use Rattle.std.proofs.Common.{arith}
use Rattle.deblock.specs.Windows.{seen}
use Rattle.deblock.proofs.Laying.{line_wider}
use Rattle.deblock.proofs.window.write_line.Goals as goal

pub returns-then-to-from-eq8-clause-value : goal.returns-then-to-from-eq8-clause-value
returns-then-to-from-eq8-clause-value g c = λ i j h.
    line_wider c.args.a c.args.b g.row.FROM g.row.TO c.args.from c.args.to i j c.args.line.now
    (seen c.args.w.now c.args.out.now) _ c.requires.last (omega arith) (omega arith) c.requires.before
    c.requires.behind (c.write_some.ensures.value i j h)
