use Rattle.std.proofs.Common.{arith, ℕ, ◌+◌, ◌%◌, sym, ◌∙◌, subst}
use Rattle.progress_words.specs.declared.view.View.{View}
use Rattle.progress_words.specs.Passes.{view}
use Rattle.progress_words.specs.Rule.{IsNextBad}
use Rattle.board_tests.specs.declared.flight.Sums.{Sums}
use Rattle.board_tests.specs.declared.flight.Meant.{Meant}
use Rattle.board_tests.specs.declared.hand.Stand.TheVariants.{Writes}
use Rattle.board_tests.specs.Passes.{meaning_in}
use Rattle.board_tests.specs.Stands.{StandsAt}
use Rattle.board_tests.proofs.Builds.{is_next_bad, value_is, sums_up}
use Rattle.board_tests.proofs.hand.add.Goals as goal

pub fault-requires-clause-next : goal.fault-requires-clause-next
fault-requires-clause-next c =
    let f = c.args.flight.now in let t = c.args.turn in let at = c.requires.at in
    let mark = sym c.mark_at.ensures ∙ c.if-mark_at-turn.true in
    subst (λ (b : Sums). IsNextBad (meaning_in b) (view c.args.pass.now) c.number_of-number.result 7)
    (sym c.requires.own.1)
    (is_next_bad f.input.items f.marks.items f.rows f.width f.some_width (view c.args.pass.now) t.line t.unit 0
    at.0.row at.0.column at.0.at at.2.ready mark at.2.fed c.number_of-number.result c.number_of-number.ensures)

pub returns-clause-at : goal.returns-clause-at
returns-clause-at c =
    let f = c.args.flight.now in let t = c.args.turn in let at = c.requires.at in let under = at.0 in
    let mark = c.mark_at.ensures in let other = c.if-mark_at-turn.false in let before = under.before in
    let sum = sums_up _ _ _ _ _ _ _ c.input_at.ensures at.1 c.above-above.ensures.value
    (value_is f.input.items f.marks.items f.rows f.width f.some_width t.line t.unit) in
    let all : ℕ = ((c.input_at.result + t.sum) % 18446744073709551616 + c.above-above.result)
    % 18446744073709551616 in
    subst (λ (u : View Meant). StandsAt f u (Writes (record { line = t.line; unit = t.unit; sum = all }) 0))
    (sym c.above-above.ensures.same.1) (
      record { none = under.none; row = under.row; column = under.column; at = under.at; before = under.before },
      sum,
      record { ready = at.2.ready; fed = at.2.fed },
      (omega arith),
      (omega arith),
    )
