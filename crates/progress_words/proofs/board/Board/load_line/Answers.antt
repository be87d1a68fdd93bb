use Rattle.std.proofs.Common.{arith, ◌<◌, sym, ap, ◌∙◌, subst}
use Rattle.progress_words.specs.Places.{Place}
use Rattle.progress_words.specs.Passes.{IsPassOf}
use Rattle.progress_words.specs.Views.{count_held}
use Rattle.progress_words.proofs.Loads.{loads_line}
use Rattle.progress_words.proofs.Passes.{count_kept}
use Rattle.progress_words.proofs.board.Board.load_line.Goals as goal

pub load-requires : goal.load-requires
load-requires g c =
    let M = g.F.Facts.meaning in let is = sym c.self.view_is in let key = c.self.inside.shared.now.key in
    let p = c.args.pass.now in
    let own = subst (λ (b : Place g.row.F.Denot). IsPassOf b p) is c.requires.own in
    let laid = c.self.invariant.2 in let a = laid.room in let room = c.self.invariant.1 in
    let place = c.count_word-place.ensures in
    let line = subst (λ (b : Place g.row.F.Denot). c.args.line < (M b.flight).lines) is c.requires.line in
    (own.0, omega arith, loads_line M key _ _ _ _ _ line place)

pub invariant_of-pass : goal.invariant_of-pass
invariant_of-pass g c =
    let did = c.load.ensures.2 c.args.line c.count_word-place.ensures in let p = c.args.pass.now in
    record {
      empty = ap (λ m. m.1) did.0 ∙ p.empty;
      counted = p.counted
          ∙ (count_kept p.seat.me.0 c.args.line _ did.2 ∙ sym (ap (λ m. count_held m.0) did.0));
    }

pub returns-clause-seen : goal.returns-clause-seen
returns-clause-seen g c =
    let did = c.load.ensures in let told = did.2 c.args.line c.count_word-place.ensures in (did.0, ap (λ m. m.0) told.0)

pub returns-clause-more : goal.returns-clause-more
returns-clause-more g c = (c.load.ensures.2 c.args.line c.count_word-place.ensures).1

pub returns-clause-sound : goal.returns-clause-sound
returns-clause-sound g c =
    (c.load.ensures.2 c.args.line c.count_word-place.ensures).3 c.args.self.now.flight c.requires.own.1
