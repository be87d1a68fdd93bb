use Rattle.std.proofs.Common.{arith, sym, ap, ◌∙◌, subst}
use Rattle.progress_words.specs.Places.{Place}
use Rattle.progress_words.specs.Meanings.{fault_word}
use Rattle.progress_words.specs.Passes.{IsPassOf, view}
use Rattle.progress_words.specs.Rule.{IsNextBad}
use Rattle.progress_words.proofs.Lowering.{lowers}
use Rattle.progress_words.proofs.board.Board.fault.Goals as goal

pub fault_of-word-requires-clause-unit : goal.fault_of-word-requires-clause-unit
fault_of-word-requires-clause-unit g c =
    let M = g.F.Facts.meaning in let is = sym c.self.view_is in let p = c.args.pass.now in
    let next = subst (λ (b : Place g.row.F.Denot). IsNextBad (M b.flight) (view p) c.args.unit c.args.rule) is
    c.requires.next in let number = next.number in
    let few = c.self.invariant.2.few next.line _ next.inside next.left in omega arith

pub fault_of-word-requires-clause-rule : goal.fault_of-word-requires-clause-rule
fault_of-word-requires-clause-rule g c =
    ((g.F.Facts.lawful c.args.self.now.flight).inside _ _ _ c.requires.next.bad).2

pub fetch_min-requires : goal.fetch_min-requires
fetch_min-requires g c =
    let M = g.F.Facts.meaning in let is = sym c.self.view_is in let key = c.self.inside.shared.now.key in
    let p = c.args.pass.now in
    let own = subst (λ (b : Place g.row.F.Denot). IsPassOf b p) is c.requires.own in
    let laid = c.self.invariant.2 in let a = laid.room in let room = c.self.invariant.1 in
    let place = c.fault_word-place.ensures
    ∙ ap (λ (b : Place g.row.F.Denot). fault_word (M b.flight)) is in
    let next = subst (λ (b : Place g.row.F.Denot). IsNextBad (M b.flight) (view p) c.args.unit c.args.rule) is
    c.requires.next in
    (own.0, omega arith, lowers M key _ _ _ _ _ _ _ place c.fault_of-word.ensures next)
