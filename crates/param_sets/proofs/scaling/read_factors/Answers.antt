use Rattle.std.proofs.lemmas.Result.{err_from_is_err_and}
use Rattle.header_fields.proofs.Loops.{goes_on, refuses, ends}
use Rattle.param_sets.proofs.ListLoops.{factors_are_loop}
use Rattle.param_sets.proofs.scaling.read_factors.Goals as goal

pub loop-preserved : goal.loop-preserved
loop-preserved c =
    rw c.in_ok-push.ensures.items (goes_on (factors_are_loop c.args.reader.now.rules c.args.count) c.loop.counter
    (c.loop.factors.items, c.loop.next) c.in_ok-next.next _ c.loop.reader c.read_factor.new.reader c.loop.invariant
    c.loop-test.true c.in_ok-next.ensures)

pub returns-in_err-next : goal.returns-in_err-next
returns-in_err-next c =
    let p = err_from_is_err_and c.from_residual.result c.from_residual.ensures.1 in
    rw (p.1, p.2) (refuses (factors_are_loop c.args.reader.now.rules c.args.count) c.loop.counter
    (c.loop.factors.items, c.loop.next) c.in_err-next.field-0.0 _ c.loop.reader c.read_factor.new.reader
    c.loop.invariant c.loop-test.true c.in_err-next.ensures)

pub returns : goal.returns
returns c =
    ends (factors_are_loop c.args.reader.now.rules c.args.count) c.loop.counter (c.loop.factors.items, c.loop.next) _
    c.loop.reader c.loop.invariant c.loop-test.false
