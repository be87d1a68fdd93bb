use Rattle.std.proofs.Common.{rules, arith, ◌≡◌, ◌<◌, ◌+◌, sym, ap, ◌∙◌, subst}
use Rattle.progress_words.specs.Places.{Place}
use Rattle.progress_words.specs.Passes.{IsPassOf, view}
use Rattle.progress_words.specs.Rule.{IsNext}
use Rattle.progress_words.specs.Views.{seen_of, count_held, AllSound}
use Rattle.progress_words.proofs.Stores.{stores_line_at}
use Rattle.progress_words.proofs.Passes.{count_is, count_after, counting_is}
use Rattle.progress_words.proofs.board.Board.advance.Goals as goal

pub overflow_add-count : goal.overflow_add-count
overflow_add-count g c =
    let p = c.args.pass.now in let is = p.counted ∙ count_is p.seat.me.0 c.args.line 0 c.requires.next.job in
    let M = g.F.Facts.meaning in let same = sym c.self.view_is in
    let left = subst (λ (b : Place g.row.F.Denot). seen_of (view p) c.args.line <
    (M b.flight).width c.args.line) same c.requires.next.left in
    let narrow = c.self.invariant.2.narrow c.args.line in let small : p.count + 1 < 18446744073709551616 =
    omega arith in search rules

pub store-requires : goal.store-requires
store-requires g c =
    let M = g.F.Facts.meaning in let is = sym c.self.view_is in let key = c.self.inside.shared.now.key in
    let p = c.args.pass.now in
    let own = subst (λ (b : Place g.row.F.Denot). IsPassOf b p) is c.requires.own in
    let laid = c.self.invariant.2 in let a = laid.room in let room = c.self.invariant.1 in
    let lines = c.self.invariant.0 in let place = c.count_word-place.ensures in
    let next = subst (λ (b : Place g.row.F.Denot). IsNext (M b.flight) (view p) c.args.line) is c.requires.next in
    let written = subst (λ (b : Place g.row.F.Denot). (view p).written ≡ (M b.flight).size c.args.line (seen_of
    (view p) c.args.line)) is c.requires.written in
    let count = p.counted ∙ count_is p.seat.me.0 c.args.line 0 next.job in
    (own.0, (let inside = next.line in omega arith), stores_line_at M key _ _ _ _ _ _ count place next written)

pub invariant_of-pass : goal.invariant_of-pass
invariant_of-pass g c =
    let did = (c.store.ensures.2 c.args.line c.count_word-place.ensures).0 in let p = c.args.pass.now in
    record {
      empty = ap (λ m. m.1) did ∙ p.empty;
      counted = sym (ap (λ m. count_held m.0) did
          ∙ count_after p.seat.me.0 c.args.line _ c.requires.next.job);
    }

pub returns-clause-seen : goal.returns-clause-seen
returns-clause-seen g c =
    let did = c.store.ensures in let told = did.2 c.args.line c.count_word-place.ensures in
    let p = c.args.pass.now in let count = p.counted ∙ count_is p.seat.me.0 c.args.line 0 c.requires.next.job in
    (did.0, ap (λ m. m.0) told.0 ∙ counting_is p.seat.me.0 c.args.line 0 _ count)

pub returns-clause-sound : goal.returns-clause-sound
returns-clause-sound g c =
    let told = c.store.ensures.2 c.args.line c.count_word-place.ensures in
    let p = c.args.pass.now in let count = p.counted ∙ count_is p.seat.me.0 c.args.line 0 c.requires.next.job in
    subst (λ n. AllSound (g.F.Facts.meaning c.args.self.now.flight) c.args.line (n + 1)) count
    (told.1 c.args.self.now.flight c.requires.own.1)
