use Rattle.std.proofs.Common.{◌*◌, subst}
use Rattle.picture_buffer.specs.Planes.{HasSides}
use Rattle.spec_slice_data.specs.Segment.{PictureShape}
use Rattle.picture_build.proofs.fresh.FreshPlanes.into_planes.Goals as goal

pub returns-clause-sides : goal.returns-clause-sides
returns-clause-sides c =
    subst (λ (q : PictureShape). HasSides c.into_laid.result (4 * q.across) (4 * q.down)) c.finish.ensures.picture
    c.into_laid.ensures.sides
