use Rattle.std.proofs.Common.{arith, sym, subst}
use Rattle.progress_words.specs.Places.{Place}
use Rattle.progress_words.specs.Passes.{IsPassOf}
use Rattle.progress_words.proofs.Joins.{splits}
use Rattle.progress_words.proofs.board.Board.split.Goals as goal

pub split_seat-seat-requires : goal.split_seat-seat-requires
split_seat-seat-requires g c =
    let M = g.F.Facts.meaning in let is = sym c.self.view_is in let key = c.self.inside.shared.now.key in
    let p = c.args.pass.now in
    let own = subst (λ (b : Place g.row.F.Denot). IsPassOf b p) is c.requires.own in
    let laid = c.self.invariant.2 in let a = laid.room in let room = c.self.invariant.1 in
    let lines = c.self.invariant.0 in
    (own.0, omega arith, splits M key _ _ own.1 c.requires.opens.0 c.requires.opens.1)
