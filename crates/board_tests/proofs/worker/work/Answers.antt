use Rattle.std.proofs.Common.{◌<◌, ℕ, sym, ap, ◌∙◌, subst}
use Rattle.progress_words.specs.declared.view.View.{View}
use Rattle.progress_words.specs.Passes.{view}
use Rattle.progress_words.specs.Views.{HasEnded}
use Rattle.board_tests.specs.declared.flight.Sums.{Sums}
use Rattle.board_tests.specs.declared.flight.Meant.{Meant}
use Rattle.board_tests.specs.Passes.{meaning_in}
use Rattle.board_tests.specs.Steps.{IsAt}
use Rattle.board_tests.proofs.Builds.{lines_is, line_is}
use Rattle.board_tests.proofs.worker.work.Goals as goal

pub draw-requires-clause-may : goal.draw-requires-clause-may
draw-requires-clause-may g c =
    let i = c.loop.invariant in let own = c.requires.own in (
      i.1.none ∙ own.2,
      subst (λ (b : Sums). HasEnded (meaning_in b) (view c.loop.pass)) (sym own.0.1) i.2,
    )

pub build_line-requires-clause-line : goal.build_line-requires-clause-line
build_line-requires-clause-line g c =
    let f = c.args.flight.now in
    subst (λ (x : ℕ). c.in-Some-draw.line < x) (lines_is f.input.items f.marks.items f.rows f.width f.some_width)
    (subst (λ (b : Sums). c.in-Some-draw.line < (meaning_in b).lines) c.requires.own.0.1 c.in-Some-draw.ensures.1)

pub build_line-requires-clause-at : goal.build_line-requires-clause-at
build_line-requires-clause-at g c =
    let f = c.args.flight.now in let t = c.in-Some-draw.line in let e = c.in-Some-draw.ensures in
    let same = line_is f.input.items f.marks.items f.rows f.width f.some_width t in
    let job = ap (λ (v : View Meant). v.job) e.0.1 in
    subst (λ (l : ℕ). IsAt (view c.draw.new.pass) l 0 0) same
    (subst (λ (b : Sums). IsAt (view c.draw.new.pass) ((meaning_in b).line_at t) 0 0) c.requires.own.0.1
    (record { job = job; count = e.3; written = ap (λ (v : View Meant). v.written) e.0.1 }))
