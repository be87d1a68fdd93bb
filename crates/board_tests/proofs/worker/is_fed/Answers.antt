use Rattle.std.proofs.Common.{rules, arith, ◌<◌, ◌-◌, ℕ, sym, subst}
use Rattle.progress_words.specs.Faults.{unit_in}
use Rattle.progress_words.specs.Passes.{view}
use Rattle.progress_words.specs.Views.{seen_of, AllSound}
use Rattle.board_tests.specs.declared.flight.Sums.{Sums}
use Rattle.board_tests.specs.Passes.{meaning_in}
use Rattle.board_tests.specs.Sums.{fed_units}
use Rattle.board_tests.proofs.Builds.{lines_is, fed_is, fed_first, ready_is, stopped_at}
use Rattle.board_tests.proofs.worker.is_fed.Goals as goal

pub returns-then-line-eq0-clause-fed : goal.returns-then-line-eq0-clause-fed
returns-then-line-eq0-clause-fed g c _ =
    let f = c.args.flight.now in
    subst (λ (l : ℕ). c.args.unit < fed_units f.marks.items f.width l) (sym c.if-line-eq0.true)
    (fed_first f.input.items f.marks.items f.rows f.width f.some_width c.args.unit c.requires.unit.1)

pub wait_line-requires-clause-line : goal.wait_line-requires-clause-line
wait_line-requires-clause-line g c =
    let f = c.args.flight.now in let row_in = c.requires.unit.0 in
    let lines = lines_is f.input.items f.marks.items f.rows f.width f.some_width in
    subst (λ (b : Sums). c.args.line - 1 < (meaning_in b).lines) (sym c.requires.own.1) (omega arith)

pub returns-in-Ready-clause-ready : goal.returns-in-Ready-clause-ready
returns-in-Ready-clause-ready g c _ =
    let f = c.args.flight.now in let row_in = c.requires.unit.0 in let need = c.min-needed.ensures in
    let enough = c.wait_line.ensures.ready c.in-Ready.is in
    ready_is f.input.items f.marks.items f.rows f.width f.some_width (view c.wait_line.new.pass) c.args.line c.args.unit
    (search rules) (omega arith) (omega arith)

pub returns-in-Ready-clause-fed : goal.returns-in-Ready-clause-fed
returns-in-Ready-clause-fed g c _ =
    let f = c.args.flight.now in let need = c.min-needed.ensures in
    let enough = c.wait_line.ensures.ready c.in-Ready.is in
    let n : ℕ = seen_of (view c.wait_line.new.pass) (c.args.line - 1) in
    fed_is f.input.items f.marks.items f.rows f.width f.some_width c.args.line c.args.unit n (search rules)
    c.requires.unit.1
    (subst (λ (b : Sums). AllSound (meaning_in b) (c.args.line - 1) n) c.requires.own.1 c.wait_line.ensures.sound)
    (omega arith)

pub returns-in-Stopped-clause-ended : goal.returns-in-Stopped-clause-ended
returns-in-Stopped-clause-ended g c _ =
    let f = c.args.flight.now in let stopped = c.wait_line.ensures.stopped c.in-Stopped.is in
    let number = c.number_of-number.ensures in let at = c.requires.at in let kept = c.wait_line.ensures.kept in
    let some_row : 0 < c.args.line = search rules in
    let w = view c.wait_line.new.pass in
    stopped_at f.input.items f.marks.items f.rows f.width f.some_width w c.args.line c.args.unit 0 (search rules)
    (subst (λ (x : ℕ). unit_in w.least < x) number stopped.0)
