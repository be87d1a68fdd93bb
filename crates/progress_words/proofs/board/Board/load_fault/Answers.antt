use Rattle.std.proofs.Common.{arith, sym, ap, ◌∙◌, subst}
use Rattle.progress_words.specs.Places.{Place}
use Rattle.progress_words.specs.Meanings.{fault_word}
use Rattle.progress_words.specs.Passes.{IsPassOf}
use Rattle.progress_words.proofs.Loads.{loads_fault}
use Rattle.progress_words.proofs.board.Board.load_fault.Goals as goal

pub load-requires : goal.load-requires
load-requires g c =
    let M = g.F.Facts.meaning in let is = sym c.self.view_is in let key = c.self.inside.shared.now.key in
    let p = c.args.pass.now in
    let own = subst (λ (b : Place g.row.F.Denot). IsPassOf b p) is c.requires.own in
    let laid = c.self.invariant.2 in let a = laid.room in let room = c.self.invariant.1 in
    let place = c.fault_word-place.ensures
    ∙ ap (λ (b : Place g.row.F.Denot). fault_word (M b.flight)) is in
    (own.0, omega arith, loads_fault M key _ _ _ _ place)
