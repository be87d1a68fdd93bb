use Rattle.std.proofs.Common.{rules}
use Rattle.made_pictures.proofs.Filling.{mean_step, mean_done}
use Rattle.made_pictures.proofs.planes.mean_plane.Goals as goal

pub loop-k-preserved : goal.loop-k-preserved
loop-k-preserved c = (
  mean_step c.args.first.now c.args.second.now c.loop-k.plane.items c.push.new.self.items c.loop-k.k c.mean.result
      c.loop-k-test.true c.requires (search rules) (search rules) c.loop-k.invariant.0,
  search rules,
)

pub returns-clause-value : goal.returns-clause-value
returns-clause-value c =
    mean_done c.args.first.now c.args.second.now c.loop-k.plane.items c.loop-k.k c.loop-k-test.false
    c.loop-k.invariant.0
