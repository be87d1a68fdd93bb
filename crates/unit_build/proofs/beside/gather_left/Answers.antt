use Rattle.std.proofs.Common.{◌≤◌, ◌+◌, ◌-◌, rules}
use Rattle.unit_build.proofs.Left.{left_more}
use Rattle.unit_build.proofs.beside.gather_left.Goals as goal

pub loop-line-preserved : goal.loop-line-preserved
loop-line-preserved g c =
    let fits : c.loop-line.line + 1 ≤ c.args.part.height - c.args.part.y = search rules in
    record {
      told =
          left_more c.args.part (g.B.Beside.sample_at c.args.beside.now) c.loop-line.line c.left.result _ _ _ fits
          c.left.ensures c.loop-line.invariant.told c.put.ensures;
    }
