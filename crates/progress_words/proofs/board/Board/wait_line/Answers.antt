use Rattle.std.proofs.Common.{◌≡◌, ◌<◌, ◌≤◌, ◌+◌, arith, inl, inr, refl, sym, ap, ◌∙◌, subst}
use Rattle.progress_words.specs.declared.view.View.{View}
use Rattle.progress_words.specs.Faults.{unit_in, IsFault}
use Rattle.progress_words.specs.Views.{seen_of, looking, checking, AllSound}
use Rattle.progress_words.specs.Passes.{HasLooked, view}
use Rattle.progress_words.proofs.Passes.{looks_again, checks_again, seen_now, not_ready, not_stopped}
use Rattle.progress_words.proofs.board.Board.wait_line.Goals as goal

pub loop-init : goal.loop-init
loop-init g c = (c.requires.own, inl refl)

pub loop-preserved : goal.loop-preserved
loop-preserved g c =
    let i = c.loop.invariant in let s = c.seen-found.ensures in let t = c.least-least.ensures in
    let looked = looks_again _ _ _ (view c.loop.pass) i.1 s.more in
    let less = subst (λ (v : View g.row.F.Denot). c.least-least.result ≤ v.least) s.seen.1 t.less in
    let is = t.seen.1 ∙ ap (λ (v : View g.row.F.Denot). checking v c.least-least.result) s.seen.1 in (
      (
        t.seen.0 ∙ (s.seen.0 ∙ i.0.0),
        ap (λ (v : View g.row.F.Denot). v.facts) is
            ∙ i.0.1,
      ),
      inr (subst (λ (v : View g.row.F.Denot). HasLooked (view c.args.pass.now) c.args.line v) (sym is)
          (checks_again _ _ 0 _ _ looked less)),
    )

pub returns-then-found-n-clause-ready : goal.returns-then-found-n-clause-ready
returns-then-found-n-clause-ready g c _ =
    subst (λ (x : Rattle.std.proofs.Common.ℕ). c.args.n ≤ x)
    (sym (ap (λ (v : View g.row.F.Denot). seen_of v c.args.line) c.seen-found.ensures.seen.1
    ∙ seen_now (view c.loop.pass) c.args.line c.seen-found.result)) c.if-found-n.true

pub returns-then-found-n-clause-stopped : goal.returns-then-found-n-clause-stopped
returns-then-found-n-clause-stopped g c e = absurd (not_stopped e)

pub returns-then-found-n-clause-kept : goal.returns-then-found-n-clause-kept
returns-then-found-n-clause-kept g c =
    let i = c.loop.invariant in let s = c.seen-found.ensures in (
      (
        s.seen.0 ∙ i.0.0,
        ap (λ (v : View g.row.F.Denot). v.facts) s.seen.1
            ∙ i.0.1,
      ),
      subst (λ (v : View g.row.F.Denot). HasLooked (view c.args.pass.now) c.args.line v) (sym s.seen.1)
          (looks_again _ _ _ (view c.loop.pass) i.1 s.more),
    )

pub returns-then-found-n-clause-sound : goal.returns-then-found-n-clause-sound
returns-then-found-n-clause-sound g c =
    subst (λ n. AllSound (g.F.Facts.meaning c.args.self.now.flight) c.args.line n)
    (sym (ap (λ (v : View g.row.F.Denot). seen_of v c.args.line) c.seen-found.ensures.seen.1
    ∙ seen_now (view c.loop.pass) c.args.line c.seen-found.result)) c.seen-found.ensures.sound

pub returns-then-least-unit-clause-ready : goal.returns-then-least-unit-clause-ready
returns-then-least-unit-clause-ready g c e = absurd (not_ready e)

pub returns-then-least-unit-clause-stopped : goal.returns-then-least-unit-clause-stopped
returns-then-least-unit-clause-stopped g c _ =
    let i = c.loop.invariant in let s = c.seen-found.ensures in let t = c.least-least.ensures in
    let M = g.F.Facts.meaning in let looked = looks_again _ _ _ (view c.loop.pass) i.1 s.more in
    let v : View g.row.F.Denot = looking (view c.loop.pass) c.args.line c.seen-found.result in
    let w : View g.row.F.Denot = checking v c.least-least.result in
    let is : view c.least-least.new.pass ≡ w =
    t.seen.1 ∙ ap (λ (v : View g.row.F.Denot). checking v c.least-least.result) s.seen.1 in
    let before = looked.checked in let more : (view c.args.pass.now).fault_loads < w.fault_loads = omega arith in (
      subst (λ (x : View g.row.F.Denot). unit_in x.least < c.args.unit) (sym is) c.if-least-unit.true,
      subst (λ (x : View g.row.F.Denot). (view c.args.pass.now).fault_loads < x.fault_loads) (sym is) more,
      subst (λ (x : View g.row.F.Denot). IsFault (M c.args.self.now.flight) x.least) (sym is) t.fault,
    )

pub returns-then-least-unit-clause-kept : goal.returns-then-least-unit-clause-kept
returns-then-least-unit-clause-kept g c =
    let i = c.loop.invariant in let s = c.seen-found.ensures in let t = c.least-least.ensures in
    let looked = looks_again _ _ _ (view c.loop.pass) i.1 s.more in
    let less = subst (λ (v : View g.row.F.Denot). c.least-least.result ≤ v.least) s.seen.1 t.less in
    let is = t.seen.1 ∙ ap (λ (v : View g.row.F.Denot). checking v c.least-least.result) s.seen.1 in (
      (
        t.seen.0 ∙ (s.seen.0 ∙ i.0.0),
        ap (λ (v : View g.row.F.Denot). v.facts) is
            ∙ i.0.1,
      ),
      subst (λ (v : View g.row.F.Denot). HasLooked (view c.args.pass.now) c.args.line v) (sym is)
          (checks_again _ _ 0 _ _ looked less),
    )

pub returns-then-least-unit-clause-sound : goal.returns-then-least-unit-clause-sound
returns-then-least-unit-clause-sound g c =
    let s = c.seen-found.ensures in let t = c.least-least.ensures in
    subst (λ n. AllSound (g.F.Facts.meaning c.args.self.now.flight) c.args.line n)
    (sym (ap (λ (v : View g.row.F.Denot). seen_of v c.args.line) (t.seen.1
    ∙ ap (λ (v : View g.row.F.Denot). checking v c.least-least.result) s.seen.1)
    ∙ seen_now (view c.loop.pass) c.args.line c.seen-found.result)) s.sound
