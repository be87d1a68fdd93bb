use Rattle.std.proofs.Common.{◌∙◌}
use Rattle.sample_lines.proofs.UnitShapes.{shape_height, shape_line, shape_unit, shape_width}
use Rattle.sample_lines.proofs.shapes.shape_of.Goals as goal

pub unit_shape-requires-clause-line : goal.unit_shape-requires-clause-line
unit_shape-requires-clause-line c =
    shape_line c.args.at.now c.args.layout.now c.line.result c.from.result c.requires c.line.ensures.value
    (c.from.ensures ∙ c.unit.ensures.value) c.line.ensures.unit

pub unit_shape-requires-clause-unit : goal.unit_shape-requires-clause-unit
unit_shape-requires-clause-unit c =
    shape_unit c.args.at.now c.args.layout.now c.line.result c.from.result c.requires c.line.ensures.value
    (c.from.ensures ∙ c.unit.ensures.value) c.line.ensures.unit

pub returns-clause-width : goal.returns-clause-width
returns-clause-width c =
    shape_width c.args.at.now c.args.layout.now c.line.result c.from.result c.requires c.line.ensures.value
    (c.from.ensures ∙ c.unit.ensures.value) c.unit_shape.result.width c.unit_shape.ensures.width

pub returns-clause-height : goal.returns-clause-height
returns-clause-height c =
    shape_height c.args.at.now c.args.layout.now c.line.result c.from.result c.requires c.line.ensures.value
    (c.from.ensures ∙ c.unit.ensures.value) c.unit_shape.result.height c.unit_shape.ensures.height
