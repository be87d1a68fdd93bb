use Rattle.std.proofs.Common.{arith}
use Rattle.sample_words.proofs.Bounds.{few_parts}
use Rattle.sample_words.proofs.Extents.{some_covering}
use Rattle.sample_words.proofs.board.Layout.rows.Goals as goal

pub returns-clause-some : goal.returns-clause-some
returns-clause-some c =
    some_covering c.ctb_size-side.result c.from.result (omega (arith, c.ctb_size-side.ensures.least))
    (omega (arith, c.sizes-sizes.ensures.there.some_height))

pub returns-clause-few : goal.returns-clause-few
returns-clause-few c =
    few_parts c.ctb_size-side.result c.from.result c.ctb_size-side.ensures.least
    (omega (arith, c.sizes-sizes.ensures.there.some_height)) (omega (arith, c.sizes-sizes.ensures.there.height))
