use Rattle.std.proofs.Common.{refl, rules}
use Rattle.spec_made.specs.Planes.{moved_sample}
use Rattle.made_pictures.proofs.Filling.{filled_step, plane_is}
use Rattle.made_pictures.proofs.planes.moved_chroma_plane.Goals as goal

pub loop-k-preserved : goal.loop-k-preserved
loop-k-preserved c = (
  filled_step 64 (moved_sample c.args.from.now 8 c.args.shift) c.loop-k.plane.items c.push.new.self.items c.loop-k.k
      c.moved_chroma.result c.loop-k.invariant.0 c.moved_chroma.ensures (search rules),
  search rules,
)

pub returns-clause-value : goal.returns-clause-value
returns-clause-value c =
    plane_is 8 64 (moved_sample c.args.from.now 8 c.args.shift) c.loop-k.plane.items c.loop-k.k 3072
    c.loop-k.auto.k-end c.loop-k-test.false refl refl
    c.loop-k.invariant.0
