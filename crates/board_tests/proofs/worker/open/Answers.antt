use Rattle.std.proofs.Common.{◌≡◌, sym, ◌∙◌, subst}
use Rattle.progress_words.specs.Meanings.{IsLaid}
use Rattle.board_tests.specs.declared.flight.Sums.{Sums}
use Rattle.board_tests.specs.Passes.{meaning_in}
use Rattle.board_tests.proofs.Layouts.{laid}
use Rattle.board_tests.proofs.Builds.{lines_is, total_is}
use Rattle.board_tests.proofs.worker.open.Goals as goal

pub open-requires-clause-laid : goal.open-requires-clause-laid
open-requires-clause-laid c =
    let f = c.args.flight.now in
    subst (λ (b : Sums). IsLaid (meaning_in b)) (sym c.of.ensures)
    (laid f.rows f.width f.some_width f.input.items f.marks.items f.small f.narrow)

pub open-requires-clause-layout : goal.open-requires-clause-layout
open-requires-clause-layout c =
    let f = c.args.flight.now in let e = c.layout.ensures in
    subst (λ (b : Sums). (c.layout.result.lines ≡ (meaning_in b).lines) × (c.layout.result.words
    ≡ (meaning_in b).total)) (sym c.of.ensures) (
      e.0 ∙ sym (lines_is f.input.items f.marks.items f.rows f.width f.some_width),
      e.1 ∙ sym (total_is f.input.items f.marks.items f.rows f.width f.some_width),
    )
