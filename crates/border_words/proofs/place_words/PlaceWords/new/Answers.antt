use Rattle.std.proofs.Common.{arith}
use Rattle.border_words.proofs.Words.{are_place_words, places_before, unit_high, unit_wide}
use Rattle.border_words.proofs.place_words.PlaceWords.new.Goals as goal

pub returns-clause-words : goal.returns-clause-words
returns-clause-words c =
    let u = c.args.at.now in
    let s = c.args.layout.now in
    let shape = c.unit_shape-shape in
    let line = c.line-line.ensures.value in
    are_place_words u s shape.result.column shape.result.width shape.result.height c.index_of-index.result
    c.sizes-sizes.ensures.in_range c.requires.place
    (unit_wide u s c.line-line.result c.unit-unit.result c.from-column.result shape.result.width c.requires.place line
    c.unit-unit.ensures.value c.from-column.ensures c.requires.phase shape.ensures.width)
    (unit_high u s c.line-line.result shape.result.height c.requires.place line shape.ensures.height)
    c.index_of-index.ensures

pub overflow_sub-result : goal.overflow_sub-result
overflow_sub-result c =
    places_before c.args.layout.now c.unit_shape-shape.result.column c.unit_shape-shape.result.width
    c.unit_shape-shape.result.height c.index_of-index.result c.index_of-index.ensures

pub overflow_sub-result-2 : goal.overflow_sub-result-2
overflow_sub-result-2 c =
    let all = places_before c.args.layout.now c.unit_shape-shape.result.column c.unit_shape-shape.result.width
    c.unit_shape-shape.result.height c.index_of-index.result c.index_of-index.ensures in
    omega (arith, all)
