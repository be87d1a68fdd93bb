use Rattle.std.proofs.Common.{rules, ◌/◌, arith, ap, refl, ◌∙◌}
use Rattle.sample_words.specs.Sizes.{width_of}
use Rattle.filter_words.proofs.Placed.{few_offsets, placed_by, some_across, some_down}
use Rattle.filter_words.proofs.placed_unit.PlacedUnit.new.Goals as goal

pub index_of-modes-requires-clause-content : goal.index_of-modes-requires-clause-content
index_of-modes-requires-clause-content c =
    let s = c.args.layout.now in
    let is = c.ctb_size.ensures.in_range in
    let wide = c.unit_shape-shape.ensures.width ∙ ap (width_of s) c.from.ensures in
    let across = some_across s is c.args.line c.args.unit c.requires in
    let down = some_down s is c.args.line c.args.unit c.requires in
    (omega (arith, wide, across), omega (arith, c.unit_shape-shape.ensures.height, down))

pub overflow_add-result : goal.overflow_add-result
overflow_add-result c =
    let few =
    few_offsets c.args.layout.now c.ctb_size.ensures.in_range c.args.line c.args.unit c.requires _ _ _ _
    c.index_of-modes.result c.from.ensures c.unit_shape-shape.ensures.width c.unit_shape-shape.ensures.height
    c.unit_shape-shape.ensures.column c.index_of-modes.ensures in
    search rules

pub invariant_of-result : goal.invariant_of-result
invariant_of-result c =
    placed_by c.args.layout.now c.ctb_size.ensures.in_range c.args.line c.args.unit c.requires _ _ _ _ _ _ _ _
    c.new.ensures c.from.ensures c.unit_shape-shape.ensures.width c.unit_shape-shape.ensures.height
    c.unit_shape-shape.ensures.column c.index_of-modes.ensures refl (ap (λ n. n / 4) c.ctb_size.ensures.value)
