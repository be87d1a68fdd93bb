use Rattle.std.proofs.Common.{◌≡◌, ◌+◌, ◌-◌, ◌<◌, slice_index_or, sym, subst, arith}
use Rattle.picture_buffer.specs.Planes.{samples_of}
use Rattle.spec_picture_build.specs.Border.{unit_side, width_of}
use Rattle.picture_trees.specs.SpecPictureTrees.{unit_at}
use Rattle.spec_slice_data.specs.Segment.{PictureShape}
use Rattle.unit_build.specs.Parts.{IsPart}
use Rattle.picture_build.specs.Standing.{Standing}
use Rattle.picture_build.proofs.LaidUnits.{left_laid}
use Rattle.picture_build.proofs.beside.PictureBesideBeside.left.Goals as goal

pub returns : goal.returns
returns c =
    let unit = c.self.inside.unit in
    let p = c.args.part in
    subst (λ (v : Standing). IsPart v.unit.layout v.unit.address p
    → slice_index_or c.row-row.result.now (p.x - 1) 0 ≡ samples_of v.planes p.c (p.x - 1) (p.y + c.args.line))
    c.self.view_is
    (λ e.
    let before = left_laid unit.layout unit.address p c.args.line e c.requires.right c.requires.line.0 in
    c.row-row.ensures.samples (p.x - 1)
    (subst (λ (q : PictureShape). p.x - 1 < width_of q p.c) (sym c.self.invariant.0)
    (subst (λ n. p.x - 1 < n) e.width (omega (arith, c.requires.room.inside))))
    (subst (λ (q : PictureShape).
    unit_at q (unit_side q p.c) (p.x - 1) (p.y + c.args.line) < c.self.inside.built.planes.now.laid)
    (sym c.self.invariant.0) (omega (arith, before, c.self.invariant.1))))
    c.requires.part
