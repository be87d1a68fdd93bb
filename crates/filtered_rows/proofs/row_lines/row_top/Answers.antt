use Rattle.std.proofs.Common.{rules}
use Rattle.filtered_rows.proofs.Sides.{begins, height_few, size_range, width_few}
use Rattle.filtered_rows.proofs.row_lines.row_top.Goals as goal

pub overflow_mul-result : goal.overflow_mul-result
overflow_mul-result c =
    let is = c.ctb_size-side.ensures.in_range in
    let inside = begins c.args.layout.now c.args.component.now is c.requires.component c.args.row c.requires.row in
    let few = height_few c.args.layout.now c.args.component.now is c.requires.component in
    search rules

pub returns-clause-inside : goal.returns-clause-inside
returns-clause-inside c =
    begins c.args.layout.now c.args.component.now c.ctb_size-side.ensures.in_range c.requires.component c.args.row
    c.requires.row

pub returns-clause-least : goal.returns-clause-least
returns-clause-least c =
    (size_range c.args.layout.now c.args.component.now c.ctb_size-side.ensures.in_range c.requires.component).0

pub returns-clause-greatest : goal.returns-clause-greatest
returns-clause-greatest c =
    (size_range c.args.layout.now c.args.component.now c.ctb_size-side.ensures.in_range c.requires.component).1

pub returns-clause-width : goal.returns-clause-width
returns-clause-width c =
    width_few c.args.layout.now c.args.component.now c.ctb_size-side.ensures.in_range c.requires.component

pub returns-clause-height : goal.returns-clause-height
returns-clause-height c =
    height_few c.args.layout.now c.args.component.now c.ctb_size-side.ensures.in_range c.requires.component
