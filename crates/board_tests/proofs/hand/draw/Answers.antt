use Rattle.std.proofs.Common.{◌<◌, ℕ, arith, refl, ap, ◌∙◌, subst}
use Rattle.progress_words.specs.declared.view.View.{View}
use Rattle.progress_words.specs.Passes.{view}
use Rattle.board_tests.specs.declared.flight.Sums.{Sums}
use Rattle.board_tests.specs.declared.flight.Meant.{Meant}
use Rattle.board_tests.specs.Passes.{meaning_in}
use Rattle.board_tests.specs.Steps.{IsAt}
use Rattle.board_tests.proofs.Builds.{lines_is, line_is}
use Rattle.board_tests.proofs.hand.draw.Goals as goal

pub returns-in-Some-clause-at : goal.returns-in-Some-clause-at
returns-in-Some-clause-at c =
    let f = c.args.flight.now in let l = c.in-Some.line in let e = c.in-Some.ensures in
    let u = view c.draw.new.pass in
    let is = line_is f.input.items f.marks.items f.rows f.width f.some_width l in
    let at = subst (λ (x : ℕ). IsAt u x 0 0) is
    (subst (λ (b : Sums). IsAt u ((meaning_in b).line_at l) 0 0) c.requires.own.1 (record {
      job = ap (λ (v : View Meant). v.job) e.0.1;
      count = e.3;
      written = ap (λ (v : View Meant). v.written) e.0.1;
    })) in
    let row = subst (λ (x : ℕ). l < x) (lines_is f.input.items f.marks.items f.rows f.width f.some_width)
    (subst (λ (b : Sums). l < (meaning_in b).lines) c.requires.own.1 e.1) in (
      record {
        none = ap (λ (v : View Meant). v.none) e.0.1 ∙ c.requires.at.1;
        row = row;
        column = f.some_width;
        at = at;
        before = omega arith;
      },
      refl,
    )
