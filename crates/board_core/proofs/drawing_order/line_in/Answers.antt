use Rattle.std.proofs.Common.{◌≡◌, ◌+◌, ◌-◌, arith, ap, ◌∙◌}
use Rattle.board_core.specs.Places.{delay, lines_before}
use Rattle.board_core.proofs.Drawing.{line_found}
use Rattle.board_core.proofs.drawing_order.line_in.Goals as goal

pub overflow_sub-result : goal.overflow_sub-result
overflow_sub-result c =
    let found =
    line_found c.args.rows c.turn_at-turn.result c.args.within c.phase_at-phase.result c.phase_at-phase.ensures.from
    c.phase_at-phase.ensures.below in
    omega (arith, found.0, c.delay_of.ensures.value)

pub returns-clause-row : goal.returns-clause-row
returns-clause-row c =
    let found =
    line_found c.args.rows c.turn_at-turn.result c.args.within c.phase_at-phase.result c.phase_at-phase.ensures.from
    c.phase_at-phase.ensures.below in
    omega (arith, found.1, c.delay_of.ensures.value)

pub returns-clause-value : goal.returns-clause-value
returns-clause-value c =
    let phase = c.phase_at-phase.result in
    let turn = c.turn_at-turn.result in
    let found =
    line_found c.args.rows turn c.args.within phase c.phase_at-phase.ensures.from c.phase_at-phase.ensures.below in
    let at : turn - c.delay_of.result + delay phase ≡ turn = omega (arith, found.0, c.delay_of.ensures.value) in
    ap (λ t. lines_before c.args.rows t (delay phase)) at ∙ found.2
