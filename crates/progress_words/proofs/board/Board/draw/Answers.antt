use Rattle.std.proofs.Common.{arith, sym, ap, ◌∙◌, subst}
use Rattle.progress_words.specs.Places.{Place}
use Rattle.progress_words.specs.Meanings.{ticket_word}
use Rattle.progress_words.specs.Passes.{IsPassOf, view}
use Rattle.progress_words.specs.Views.{HasEnded}
use Rattle.progress_words.proofs.Draws.{draws}
use Rattle.progress_words.proofs.board.Board.draw.Goals as goal

pub fetch_add-found-requires : goal.fetch_add-found-requires
fetch_add-found-requires g c =
    let M = g.F.Facts.meaning in let is = sym c.self.view_is in let key = c.self.inside.shared.now.key in
    let p = c.args.pass.now in
    let own = subst (λ (b : Place g.row.F.Denot). IsPassOf b p) is c.requires.own in
    let laid = c.self.invariant.2 in let a = laid.room in let room = c.self.invariant.1 in
    let place = c.ticket_word-place.ensures ∙ ap (λ (b : Place g.row.F.Denot). ticket_word (M b.flight)) is in
    let ended = subst (λ (b : Place g.row.F.Denot). HasEnded (M b.flight) (view p)) is c.requires.may.1 in
    (own.0, omega arith, draws M key _ _ _ _ place own.1 c.requires.may.0 ended)
