use Rattle.std.proofs.Common.{◌≡◌, ◌+◌, arith, ap, sym, ◌∙◌}
use Rattle.board_core.specs.Places.{lines_before}
use Rattle.board_core.proofs.Drawing.{all_before, next_turn, none_before}
use Rattle.board_core.proofs.drawing_order.turn_at.Goals as goal

pub loop-high-init : goal.loop-high-init
loop-high-init c =
    let rows = c.args.rows in
    record {
      order = omega arith;
      last = omega arith;
      from = omega (arith, none_before rows);
      below = omega (arith, all_before rows, c.requires.inside);
    }

pub returns-clause-below : goal.returns-clause-below
returns-clause-below c =
    let rows = c.args.rows in
    let low = c.loop-high.low in
    let last : c.loop-high.high ≡ low + 1 = omega (arith, c.loop-high.invariant.order, c.loop-high-test.false) in
    let e : lines_before rows low 13 ≡ lines_before rows c.loop-high.high 0 =
    next_turn rows low ∙ ap (λ t. lines_before rows t 0) (sym last) in
    omega (arith, e, c.loop-high.invariant.below)
