use Rattle.std.proofs.Common.{rules, arith, ℕ, ◌<◌, ◌-◌, sym, subst}
use Rattle.progress_words.specs.declared.view.View.{View}
use Rattle.progress_words.specs.Passes.{view}
use Rattle.progress_words.specs.Views.{AllSound}
use Rattle.board_tests.specs.declared.flight.Sums.{Sums}
use Rattle.board_tests.specs.declared.flight.Meant.{Meant}
use Rattle.board_tests.specs.Sums.{fed_units}
use Rattle.board_tests.specs.Steps.{IsReady}
use Rattle.board_tests.specs.Passes.{meaning_in}
use Rattle.board_tests.specs.Stands.{IsUnder, IsFed}
use Rattle.board_tests.proofs.Builds.{lines_is, ready_first, fed_first}
use Rattle.board_tests.proofs.Turns.{looked_under, looked_fed}
use Rattle.board_tests.proofs.hand.look.Goals as goal

pub returns-then-turn-eq0-clause-at : goal.returns-then-turn-eq0-clause-at
returns-then-turn-eq0-clause-at c =
    let f = c.args.flight.now in let t = c.args.turn in let at = c.requires.at in
    let v = view c.args.pass.now in let first = sym c.if-turn-eq0.true in (
      at.0,
      at.1,
      record {
        ready = subst (λ (l : ℕ). IsReady f.input.items f.marks.items f.rows f.width v l t.unit) first
            (ready_first f.input.items f.marks.items f.rows f.width f.some_width v t.unit);
        fed = subst (λ (l : ℕ). t.unit < fed_units f.marks.items f.width l) first
            (fed_first f.input.items f.marks.items f.rows f.width f.some_width t.unit at.0.column);
      },
    )

pub seen-requires-clause-line : goal.seen-requires-clause-line
seen-requires-clause-line c =
    let f = c.args.flight.now in let row_in = c.requires.at.0.row in
    let lines = lines_is f.input.items f.marks.items f.rows f.width f.some_width in
    subst (λ (b : Sums). c.args.turn.line - 1 < (meaning_in b).lines) (sym c.requires.own.1) (omega arith)

pub returns-then-seen-needed-clause-at : goal.returns-then-seen-needed-clause-at
returns-then-seen-needed-clause-at c =
    let f = c.args.flight.now in let t = c.args.turn in let at = c.requires.at in let e = c.seen.ensures in
    let v = view c.args.pass.now in let n : ℕ = c.seen.result in let now = sym e.seen.1 in
    let some_row : 0 < t.line = search rules in
    let need = c.min-needed.ensures in let enough = c.if-seen-needed.true in
    let sound = subst (λ (b : Sums). AllSound (meaning_in b) (t.line - 1) n) c.requires.own.1 e.sound in (
      subst (λ (u : View Meant). IsUnder f u t 0) now (looked_under f v t n some_row at.0),
      at.1,
      subst (λ (u : View Meant). IsFed f u t) now (looked_fed f v t n some_row at.0 (omega arith) sound),
    )

pub look_for_fault-requires-clause-at : goal.look_for_fault-requires-clause-at
look_for_fault-requires-clause-at c =
    let f = c.args.flight.now in let t = c.args.turn in let at = c.requires.at in let e = c.seen.ensures in
    let some_row : 0 < t.line = search rules in (
      subst (λ (u : View Meant). IsUnder f u t 0) (sym e.seen.1)
          (looked_under f (view c.args.pass.now) t c.seen.result some_row at.0),
      at.1,
    )
