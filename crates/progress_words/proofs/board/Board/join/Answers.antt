use Rattle.std.proofs.Common.{arith, sym, subst}
use Rattle.progress_words.specs.Places.{Place}
use Rattle.progress_words.specs.Passes.{IsPassOf, view}
use Rattle.progress_words.specs.Views.{HasEnded}
use Rattle.progress_words.proofs.Joins.{joins}
use Rattle.progress_words.proofs.board.Board.join.Goals as goal

pub join_seat-requires : goal.join_seat-requires
join_seat-requires g c =
    let M = g.F.Facts.meaning in let is = sym c.self.view_is in let key = c.self.inside.shared.now.key in
    let p = c.args.pass.now in
    let own = subst (λ (b : Place g.row.F.Denot). IsPassOf b p) is c.requires.own.0 in
    let laid = c.self.invariant.2 in let a = laid.room in let room = c.self.invariant.1 in
    let lines = c.self.invariant.0 in
    let q = c.args.other in
    let their = subst (λ (b : Place g.row.F.Denot). IsPassOf b q) is c.requires.own.1 in
    let ended = subst (λ (b : Place g.row.F.Denot). HasEnded (M b.flight) (view p)) is c.requires.ended.0 in
    let ended_ = subst (λ (b : Place g.row.F.Denot). HasEnded (M b.flight) (view q)) is c.requires.ended.1 in
    (own.0, their.0, q.empty, omega arith, joins M key _ _ _ _ own.1 their.1 ended ended_)
