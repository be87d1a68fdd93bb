use Rattle.std.proofs.Common.{rules}
use Rattle.inter_pred.specs.Passes.{at, value_of}
use Rattle.inter_pred.specs.Samples.{sample}
use Rattle.inter_pred.proofs.Laying.{set_laid}
use Rattle.inter_pred.proofs.weighting.line.Goals as goal

pub loop-k-preserved : goal.loop-k-preserved
loop-k-preserved g c =
    set_laid c.args.from c.loop-k.k c.sample.result c.args.out.now c.loop-k.out
    (λ i. sample g.row.KIND c.args.scale.depth c.args.scale.log2_wd c.args.scale.first c.args.scale.second
    (value_of (at c.args.p.now i)) (value_of (at c.args.q.now i)))
    (search rules) c.sample.ensures c.loop-k.invariant
