use Rattle.board_core.proofs.Order.{drawn_before, ticket_inside, ticket_order}
use Rattle.board_core.proofs.laws.lines_are_drawn_in_order.Goals as goal

pub returns-clause-order : goal.returns-clause-order
returns-clause-order c plan l m line_l line_m =
    (λ less. ticket_order plan l m line_l line_m less, λ before. drawn_before plan l m line_l before)

pub returns-clause-inside : goal.returns-clause-inside
returns-clause-inside c plan l line = ticket_inside plan l line
