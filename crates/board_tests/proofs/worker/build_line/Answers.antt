use Rattle.std.proofs.Common.{◌≡◌, arith, subst}
use Rattle.progress_words.specs.Passes.{view}
use Rattle.board_tests.specs.Steps.{IsAt}
use Rattle.board_tests.proofs.Builds.{full_at}
use Rattle.board_tests.proofs.worker.build_line.Goals as goal

pub returns-clause-ended : goal.returns-clause-ended
returns-clause-ended g c =
    let f = c.args.flight.now in let i = c.loop-unit.invariant in
    let full : c.loop-unit.unit ≡ f.width = (let a = c.loop-unit-test.false in let b = c.loop-unit.auto.unit-end in
    omega arith) in
    full_at f.input.items f.marks.items f.rows f.width f.some_width (view c.loop-unit.pass) c.args.line 0
    (subst (λ k. IsAt (view c.loop-unit.pass) c.args.line k 0) full i.1)
