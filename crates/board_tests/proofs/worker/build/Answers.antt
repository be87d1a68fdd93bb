use Rattle.board_tests.proofs.Builds.{value_is, sums_up}
use Rattle.board_tests.proofs.worker.build.Goals as goal

pub finish-requires-clause-value : goal.finish-requires-clause-value
finish-requires-clause-value c = let f = c.args.flight.now in
    sums_up _ _ _ _ _ _ _ c.input_at.ensures c.requires.left c.above-above.ensures.value
    (value_is f.input.items f.marks.items f.rows f.width f.some_width c.args.line c.args.unit)

pub returns-clause-value : goal.returns-clause-value
returns-clause-value c = let f = c.args.flight.now in
    sums_up _ _ _ _ _ _ _ c.input_at.ensures c.requires.left c.above-above.ensures.value
    (value_is f.input.items f.marks.items f.rows f.width f.some_width c.args.line c.args.unit)
