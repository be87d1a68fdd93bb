use Rattle.std.proofs.Common.{◌-◌, ◌∙◌, arith}
use Rattle.loop_filters.proofs.Gathered.{lines_fit, own_line, own_stays}
use Rattle.loop_filters.proofs.offsets.gather_lines.Goals as goal

pub copy_part-requires-clause-from : goal.copy_part-requires-clause-from
copy_part-requires-clause-from c =
    lines_fit c.args.component.now.width c.args.top (c.min-behind.result - c.args.top) c.args.component.now.height _
    (omega (arith, c.min-behind.ensures, c.requires.begins)) (omega (arith, c.requires.samples))

pub returns-then-top-gt0-clause-own : goal.returns-then-top-gt0-clause-own
returns-then-top-gt0-clause-own c = λ x y column line low high.
    own_stays c.args.component.now.width c.args.top x y c.args.last.now c.copy_part-then-top-gt0.new.out
    c.copy_part.new.out c.if-top-gt0.true low c.copy_part-then-top-gt0.ensures
    ∙ own_line c.args.component.now.width c.args.top c.min-behind.result c.min.result x y c.args.samples.now
    c.copy_part.new.out c.args.lines.now c.min.ensures column low (omega (arith, c.min-behind.ensures))
    c.copy_part.ensures

pub returns-else-top-gt0-clause-own : goal.returns-else-top-gt0-clause-own
returns-else-top-gt0-clause-own c = λ x y column line low high.
    own_line c.args.component.now.width c.args.top c.min-behind.result c.min.result x y c.args.samples.now
    c.copy_part.new.out c.args.lines.now c.min.ensures column low (omega (arith, c.min-behind.ensures))
    c.copy_part.ensures
