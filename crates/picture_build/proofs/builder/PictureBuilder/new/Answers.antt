use Rattle.std.proofs.Common.{ap}
use Rattle.picture_build.specs.Fresh.{Fresh}
use Rattle.picture_build.specs.Pictures.{buffer_of}
use Rattle.picture_build.proofs.Built.{built_first}
use Rattle.picture_build.proofs.builder.PictureBuilder.new.Goals as goal

pub returns-clause-built : goal.returns-clause-built
returns-clause-built g c =
    built_first (buffer_of g.B.Buffer.pictures) c.args.plan.now c.new-fresh.result.planes _ c.in_ok-planes.field _ _
    (ap (λ (f : Fresh). f.planes) c.fresh.view_is) c.field.view_is c.new-fresh.ensures.samples
    c.in_ok-planes.ensures.motions c.in_ok-new.ensures.value
