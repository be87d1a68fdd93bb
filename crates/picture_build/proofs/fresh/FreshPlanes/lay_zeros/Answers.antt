use Rattle.std.proofs.Common.{◌≡◌, ◌≤◌, sym, subst, ◌∙◌, arith}
use Rattle.unit_build.specs.CtuBuild.{held}
use Rattle.picture_buffer.specs.Planes.{samples_of}
use Rattle.spec_picture_build.specs.Border.{unit_side}
use Rattle.picture_trees.specs.SpecPictureTrees.{unit_at}
use Rattle.spec_slice_data.specs.Segment.{PictureShape}
use Rattle.picture_build.proofs.LaidUnits.{zeros_laid}
use Rattle.picture_build.proofs.fresh.FreshPlanes.lay_zeros.Goals as goal

pub loop-next-preserved : goal.loop-next-preserved
loop-next-preserved c =
    let at = c.loop-next.invariant in
    let same : c.loop-next.self.picture ≡ c.self.inside.layout = at.picture ∙ sym at.layout in
    record {
      picture = c.lay_unit.ensures.picture ∙ at.picture;
      layout = at.layout;
      laid = omega (arith, c.lay_unit.ensures.laid, at.laid);
      samples =
          c.lay_unit.ensures.value
          ∙ zeros_laid c.self.inside.layout c.loop-next.next (held c.new-none.result)
          (samples_of c.loop-next.self.planes) c.new-none.ensures
          (λ k x y le. c.tell_zeros.ensures k x y
          (subst (λ (q : PictureShape). c.loop-next.self.laid ≤ unit_at q (unit_side q k) x y) (sym same)
          (omega (arith, le, at.laid))))
          ∙ at.samples;
    }
