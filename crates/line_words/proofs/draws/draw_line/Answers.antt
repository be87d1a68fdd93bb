use Rattle.std.proofs.Common.{◌≡◌, ◌<◌, ℕ, ap, ◌∙◌, subst}
use Rattle.progress_words.specs.Passes.{view}
use Rattle.progress_words.specs.Views.{holding, seen_of}
use Rattle.sample_words.specs.Words.{line_number}
use Rattle.line_words.proofs.Drawing.{drawn_at_board, lines_at_board}
use Rattle.line_words.proofs.draws.draw_line.Goals as goal

pub line_of_ticket-requires : goal.line_of_ticket-requires
line_of_ticket-requires g c =
    let key = c.args.board.now.flight in
    let is = lines_at_board (g.F.Facts.meaning key) (g.F.RowFacts.flight key) (g.met.F.RowFacts.meant key)
    c.args.layout.now c.requires.flight in
    subst (λ (n : ℕ). c.in-Some.ticket < n) is c.in-Some.ensures.1

pub returns-in-Some : goal.returns-in-Some
returns-in-Some g c =
    let key = c.args.board.now.flight in
    let M = g.F.Facts.meaning key in
    let s = c.args.layout.now in
    let l = c.line_of_ticket.result in
    let told = c.in-Some.ensures in
    let is : M.line_at c.in-Some.ticket ≡ line_number s l =
    drawn_at_board M (g.F.RowFacts.flight key) (g.met.F.RowFacts.meant key) s c.requires.flight l c.in-Some.ticket
    c.line_of_ticket.ensures.line c.line_of_ticket.ensures.ticket in (
      c.line_of_ticket.ensures.line,
      (
        told.0.0,
        told.0.1
            ∙ ap (λ (n : ℕ). holding (view c.args.pass.now) n) is,
      ),
      subst (λ (n : ℕ). seen_of (view c.draw.new.pass) n ≡ 0) is told.3,
    )
