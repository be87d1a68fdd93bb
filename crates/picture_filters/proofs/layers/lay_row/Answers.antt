use Rattle.std.proofs.Common.{◌+◌, ◌*◌, refl, arith}
use Rattle.picture_filters.specs.Places.{places_of}
use Rattle.picture_filters.proofs.Lines.{laid_row, part_length}
use Rattle.picture_filters.proofs.layers.lay_row.Goals as goal

pub put_row-requires-clause-columns : goal.put_row-requires-clause-columns
put_row-requires-clause-columns c =
    let e =
    part_length c.args.read.now (16 * c.args.row) c.args.block.columns
    (omega (arith, c.requires.row, c.requires.small.rows, c.requires.small.columns, c.told-read)) in
    omega (arith, e, c.requires.columns)

pub returns-clause-places : goal.returns-clause-places
returns-clause-places c i j =
    laid_row c.args.slice c.offsets_of.result c.args.read.now (16 * c.args.row) _ c.args.block.columns c.args.block.x
    (c.args.block.y + c.args.row) c.args.row i j _ (places_of c.args.field.now i j) (places_of c.put_row.new.self i j)
    c.offsets_of.ensures refl (omega arith)
    (part_length c.args.read.now (16 * c.args.row) c.args.block.columns
    (omega (arith, c.requires.row, c.requires.small.rows, c.requires.small.columns, c.told-read)))
    (c.put_row.ensures.places i j)
