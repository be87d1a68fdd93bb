use Rattle.std.proofs.Common.{rules}
use Rattle.picture_filters.specs.Places.{places_of}
use Rattle.picture_filters.specs.Filtering.{read_place}
use Rattle.picture_filters.proofs.Lines.{laid_rows}
use Rattle.picture_filters.proofs.layers.lay_places.Goals as goal

pub returns-clause-value : goal.returns-clause-value
returns-clause-value c i j =
    laid_rows c.args.unit.now c.places-block.result c.args.slice (read_place c.args.read.now)
    (places_of c.args.field.now) (places_of c.loop-row.field) i j c.places-block.ensures.block (search rules)
