use Rattle.std.proofs.Common.{◌≡◌, ◌∙◌, sym, true, false}
use Rattle.board_core.proofs.Progress.{done_next}
use Rattle.board_core.proofs.core_state.Core.first_left.Goals as goal

pub loop-ticket-preserved : goal.loop-ticket-preserved
loop-ticket-preserved c =
    let plan = c.args.self.now.plan in
    let s = c.args.self.now.state in
    done_next plan s c.line_at-line.result c.loop-ticket.ticket c.line_at-line.ensures.line c.line_at-line.ensures.value
    (λ left. let t = c.is_left.ensures.1 left in let e : false ≡ true = sym c.if-is_left.false ∙ t in cc)
    c.loop-ticket.invariant
