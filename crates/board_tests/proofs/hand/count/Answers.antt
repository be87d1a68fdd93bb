use Rattle.std.proofs.Common.{arith, ◌≡◌, ◌+◌, sym, ap, ◌∙◌, subst}
use Rattle.progress_words.specs.declared.view.View.{View}
use Rattle.progress_words.specs.Passes.{view}
use Rattle.progress_words.specs.Views.{seen_of, HasEnded}
use Rattle.progress_words.specs.Rule.{IsNext}
use Rattle.board_tests.specs.declared.flight.Sums.{Sums}
use Rattle.board_tests.specs.declared.flight.Meant.{Meant}
use Rattle.board_tests.specs.Passes.{meaning_in}
use Rattle.board_tests.specs.Stands.{IsUnder}
use Rattle.board_tests.proofs.Builds.{is_next, sized}
use Rattle.board_tests.proofs.Turns.{left_next, counted_under, counted_full}
use Rattle.board_tests.proofs.hand.count.Goals as goal

pub advance-requires-clause-next : goal.advance-requires-clause-next
advance-requires-clause-next c =
    let f = c.args.flight.now in let t = c.args.turn in let at = c.requires.at in let v = view c.args.pass.now in
    subst (λ (b : Sums). IsNext (meaning_in b) v t.line) (sym c.requires.own.1)
    (is_next f.input.items f.marks.items f.rows f.width f.some_width v t.line t.unit 2 at.0.row at.0.column at.0.at
    at.2.ready at.3 at.2.fed)

pub advance-requires-clause-written : goal.advance-requires-clause-written
advance-requires-clause-written c =
    let f = c.args.flight.now in let t = c.args.turn in let v = view c.args.pass.now in
    subst (λ (b : Sums). v.written ≡ (meaning_in b).size t.line (seen_of v t.line)) (sym c.requires.own.1)
    (c.requires.at.0.at.written ∙ sym (sized f.input.items f.marks.items f.rows f.width f.some_width _ _))

pub returns-then-unit-flight-clause-at : goal.returns-then-unit-flight-clause-at
returns-then-unit-flight-clause-at c =
    let f = c.args.flight.now in let t = c.args.turn in let at = c.requires.at in (
      subst (λ (u : View Meant). IsUnder f u (record { line = t.line; unit = t.unit + 1; sum = t.sum }) 0)
          (sym c.advance.ensures.seen.1)
          (counted_under f (view c.args.pass.now) t t.sum at.0 at.3 c.if-unit-flight.true),
      at.1 ∙ sym (left_next f t.line t.unit),
    )

pub returns-else-unit-flight-clause-at : goal.returns-else-unit-flight-clause-at
returns-else-unit-flight-clause-at c =
    let f = c.args.flight.now in let t = c.args.turn in let at = c.requires.at in let e = c.advance.ensures.seen.1 in
    let column = at.0.column in let over = c.if-unit-flight.false in (
      subst (λ (u : View Meant). HasEnded (meaning_in f) u) (sym e)
          (counted_full f (view c.args.pass.now) t at.0 (omega arith)),
      ap (λ (u : View Meant). u.none) e ∙ at.0.none,
    )
