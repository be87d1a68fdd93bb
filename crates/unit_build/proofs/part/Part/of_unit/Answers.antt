use Rattle.std.proofs.Common.{◌*◌, ◌-◌, ◌^◌, ◌<◌, sym, subst}
use Rattle.spec_picture_build.specs.SpecSliceData.{PictureShape}
use Rattle.unit_build.proofs.Sizes.{room_is}
use Rattle.unit_build.proofs.part.Part.of_unit.Goals as goal

pub returns-clause-room : goal.returns-clause-room
returns-clause-room c =
    let layout : PictureShape = c.args.unit.now.layout in
    room_is c.args.c c.samples_of_place-scale.result c.side.result layout.width c.across.result
    c.down.result c.column.result _
    c.requires c.samples_of_place-scale.ensures.some c.samples_of_place-scale.ensures.few c.side.ensures.some
    c.side.ensures.small
    (subst (λ s. s * (layout.width - 1) < c.across.result) (sym c.side.ensures.value)
    (subst (λ n. 2 ^ layout.size * (layout.width - 1) < n) (sym c.across.ensures.value) c.side.ensures.shape.needed))
    c.across.ensures.few c.down.ensures.few c.column.ensures.below
