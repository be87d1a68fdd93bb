use Rattle.std.proofs.Common.{◌∙◌, sym, subst}
use Rattle.progress_words.specs.Passes.{view}
use Rattle.progress_words.specs.Rule.{IsNextBad}
use Rattle.board_tests.specs.declared.flight.Sums.{Sums}
use Rattle.board_tests.specs.Passes.{meaning_in}
use Rattle.board_tests.proofs.Builds.{is_next_bad}
use Rattle.board_tests.proofs.worker.turn.Goals as goal

pub fault-requires-clause-next : goal.fault-requires-clause-next
fault-requires-clause-next g c =
    let f = c.args.flight.now in let e = c.is_fed.ensures in let fed = c.if-not-is_fed.false in
    let mark = sym c.mark_at.ensures ∙ c.if-mark_at-unit.true in
    subst (λ (b : Sums). IsNextBad (meaning_in b) (view c.is_fed.new.pass) c.number_of-number.result 7)
    (sym c.requires.own.1)
    (is_next_bad f.input.items f.marks.items f.rows f.width f.some_width (view c.is_fed.new.pass) c.args.line
    c.args.unit 0 c.requires.unit.0 c.requires.unit.1 e.at (e.ready fed) mark (e.fed fed) c.number_of-number.result
    c.number_of-number.ensures)
