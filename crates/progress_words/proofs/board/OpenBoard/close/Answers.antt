use Rattle.std.proofs.Common.{◌≡◌, ◌<◌, ℕ, get_or, sym, ◌∙◌, subst}
use Rattle.std.specs.Mem.Slots.{slots_items}
use Rattle.progress_words.specs.Places.{Place}
use Rattle.progress_words.specs.Core.{IsReached, count_in, fault_in}
use Rattle.progress_words.specs.Meanings.{IsData}
use Rattle.progress_words.specs.Faults.{unit_in, IsFirstFault}
use Rattle.progress_words.specs.Passes.{IsPassOf, view}
use Rattle.progress_words.specs.Views.{HasEnded}
use Rattle.progress_words.proofs.Closing.{ends_well}
use Rattle.progress_words.proofs.board.OpenBoard.close.Goals as goal

pub invariant_of-result : goal.invariant_of-result
invariant_of-result g c = let e = c.close_with-closed.ensures in (e.values.0, (e.counts.1 ∙ c.self.invariant.3, tt))

pub returns-clause-core : goal.returns-clause-core
returns-clause-core g c =
    let M = g.F.Facts.meaning in let key = c.self.inside.table.shared.key in let is = sym c.self.view_is in
    let p = c.args.pass in let own = subst (λ (b : Place g.row.F.Denot). IsPassOf b p) is c.requires.own in
    let ended = subst (λ (b : Place g.row.F.Denot). HasEnded (M b.flight) (view p)) is c.requires.done.1 in
    let fin = c.close_with-closed.ensures.values.2 in
    let all = ends_well M key (g.F.Facts.lawful key) fin.0 fin.1.0 _ _ fin.1.1 own.1 c.requires.whole.0
    c.requires.whole.1 c.requires.done.0 ended _ fin.2 in
    subst (λ (b : Place g.row.F.Denot). IsReached (M b.flight) (slots_items c.close_with-closed.result.words))
    c.self.view_is all.reached

pub returns-clause-fault : goal.returns-clause-fault
returns-clause-fault g c =
    let M = g.F.Facts.meaning in let key = c.self.inside.table.shared.key in let is = sym c.self.view_is in
    let p = c.args.pass in let own = subst (λ (b : Place g.row.F.Denot). IsPassOf b p) is c.requires.own in
    let ended = subst (λ (b : Place g.row.F.Denot). HasEnded (M b.flight) (view p)) is c.requires.done.1 in
    let fin = c.close_with-closed.ensures.values.2 in
    let all = ends_well M key (g.F.Facts.lawful key) fin.0 fin.1.0 _ _ fin.1.1 own.1 c.requires.whole.0
    c.requires.whole.1 c.requires.done.0 ended _ fin.2 in
    subst (λ (b : Place g.row.F.Denot). IsFirstFault (M b.flight)
    (fault_in (M b.flight) (slots_items c.close_with-closed.result.words))) c.self.view_is all.fault

pub returns-clause-counted : goal.returns-clause-counted
returns-clause-counted g c =
    let M = g.F.Facts.meaning in let key = c.self.inside.table.shared.key in let is = sym c.self.view_is in
    let p = c.args.pass in let own = subst (λ (b : Place g.row.F.Denot). IsPassOf b p) is c.requires.own in
    let ended = subst (λ (b : Place g.row.F.Denot). HasEnded (M b.flight) (view p)) is c.requires.done.1 in
    let fin = c.close_with-closed.ensures.values.2 in
    let all = ends_well M key (g.F.Facts.lawful key) fin.0 fin.1.0 _ _ fin.1.1 own.1 c.requires.whole.0
    c.requires.whole.1 c.requires.done.0 ended _ fin.2 in
    subst (λ (b : Place g.row.F.Denot). (l k : ℕ) → l < (M b.flight).lines → k < (M b.flight).width l
    → (M b.flight).number l k < unit_in (fault_in (M b.flight) (slots_items c.close_with-closed.result.words))
    → k < count_in (slots_items c.close_with-closed.result.words) l) c.self.view_is all.counted

pub returns-clause-words : goal.returns-clause-words
returns-clause-words g c =
    let M = g.F.Facts.meaning in let key = c.self.inside.table.shared.key in let is = sym c.self.view_is in
    let p = c.args.pass in let own = subst (λ (b : Place g.row.F.Denot). IsPassOf b p) is c.requires.own in
    let ended = subst (λ (b : Place g.row.F.Denot). HasEnded (M b.flight) (view p)) is c.requires.done.1 in
    let fin = c.close_with-closed.ensures.values.2 in
    let all = ends_well M key (g.F.Facts.lawful key) fin.0 fin.1.0 _ _ fin.1.1 own.1 c.requires.whole.0
    c.requires.whole.1 c.requires.done.0 ended _ fin.2 in
    subst (λ (b : Place g.row.F.Denot). (w : ℕ) → IsData (M b.flight) w
    → (M b.flight).number ((M b.flight).owner w).line ((M b.flight).owner w).unit
    < unit_in (fault_in (M b.flight) (slots_items c.close_with-closed.result.words))
    → get_or (slots_items c.close_with-closed.result.words) w 0 ≡ (M b.flight).expected w) c.self.view_is all.words_are
