use Rattle.std.proofs.Common.{refl, rules}
use Rattle.spec_made.specs.Planes.{moved_sample}
use Rattle.made_pictures.proofs.Filling.{filled_step, plane_is}
use Rattle.made_pictures.proofs.planes.moved_luma_plane.Goals as goal

pub loop-k-preserved : goal.loop-k-preserved
loop-k-preserved c = (
  filled_step 128 (moved_sample c.args.from.now 16 c.args.shift) c.loop-k.plane.items c.push.new.self.items c.loop-k.k
      c.moved_luma.result c.loop-k.invariant.0 c.moved_luma.ensures (search rules),
  search rules,
)

pub returns-clause-value : goal.returns-clause-value
returns-clause-value c =
    plane_is 16 128 (moved_sample c.args.from.now 16 c.args.shift) c.loop-k.plane.items c.loop-k.k 12288
    c.loop-k.auto.k-end c.loop-k-test.false refl refl
    c.loop-k.invariant.0
