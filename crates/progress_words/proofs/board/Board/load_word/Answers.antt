use Rattle.std.proofs.Common.{arith, sym, subst}
use Rattle.progress_words.specs.Places.{Place}
use Rattle.progress_words.specs.Passes.{IsPassOf, IsSeen, view}
use Rattle.progress_words.proofs.Loads.{loads_word}
use Rattle.progress_words.proofs.board.Board.load_word.Goals as goal

pub load-requires : goal.load-requires
load-requires g c =
    let M = g.F.Facts.meaning in let is = sym c.self.view_is in let key = c.self.inside.shared.now.key in
    let p = c.args.pass.now in
    let own = subst (λ (b : Place g.row.F.Denot). IsPassOf b p) is c.requires.own in
    let laid = c.self.invariant.2 in let a = laid.room in let room = c.self.invariant.1 in
    let lines = c.self.invariant.0 in
    let seen = subst (λ (b : Place g.row.F.Denot). IsSeen (M b.flight) (view p) c.args.word) is c.requires.seen in
    let inside = seen.0.1 in
    (own.0, omega arith, loads_word M key _ _ _ _ own.1 seen.0 seen.1)
