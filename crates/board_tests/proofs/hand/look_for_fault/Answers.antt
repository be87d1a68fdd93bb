use Rattle.std.proofs.Common.{ℕ, ◌<◌, ◌/◌, sym, ap, ◌∙◌, subst}
use Rattle.progress_words.specs.declared.view.View.{View}
use Rattle.progress_words.specs.Passes.{view}
use Rattle.progress_words.specs.Views.{HasEnded}
use Rattle.board_tests.specs.declared.flight.Meant.{Meant}
use Rattle.board_tests.specs.Passes.{meaning_in}
use Rattle.board_tests.proofs.Turns.{checked_ended}
use Rattle.board_tests.proofs.hand.look_for_fault.Goals as goal

pub returns-then-least-number-clause-at : goal.returns-then-least-number-clause-at
returns-then-least-number-clause-at c =
    let f = c.args.flight.now in let t = c.args.turn in let at = c.requires.at in let e = c.least.ensures.seen in
    let below = subst (λ (x : ℕ). c.least.result / 32 < x) c.number_of-number.ensures c.if-least-number.true in (
      subst (λ (u : View Meant). HasEnded (meaning_in f) u) (sym e.1)
          (checked_ended f (view c.args.pass.now) t c.least.result at.0 below),
      ap (λ (u : View Meant). u.none) e.1 ∙ at.0.none,
    )
