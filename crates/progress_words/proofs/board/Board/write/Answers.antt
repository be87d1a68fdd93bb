use Rattle.std.proofs.Common.{arith, ◌≡◌, sym, subst}
use Rattle.progress_words.specs.Places.{Place}
use Rattle.progress_words.specs.Passes.{IsPassOf, view}
use Rattle.progress_words.specs.Rule.{IsNextWord}
use Rattle.progress_words.proofs.Stores.{stores_word}
use Rattle.progress_words.proofs.board.Board.write.Goals as goal

pub store-requires : goal.store-requires
store-requires g c =
    let M = g.F.Facts.meaning in let is = sym c.self.view_is in let key = c.self.inside.shared.now.key in
    let p = c.args.pass.now in
    let own = subst (λ (b : Place g.row.F.Denot). IsPassOf b p) is c.requires.own in
    let laid = c.self.invariant.2 in let a = laid.room in let room = c.self.invariant.1 in
    let lines = c.self.invariant.0 in
    let next = subst (λ (b : Place g.row.F.Denot). IsNextWord (M b.flight)
    (view p) c.args.word) is c.requires.next in let inside = next.word.1 in
    let value = subst (λ (b : Place g.row.F.Denot). c.args.value ≡
    (M b.flight).expected c.args.word) is c.requires.value in
    (own.0, omega arith, stores_word M key _ _ _ _ _ next value)
