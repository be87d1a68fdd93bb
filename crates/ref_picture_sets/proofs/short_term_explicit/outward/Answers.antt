use Rattle.std.proofs.Common.{arith}
use Rattle.std.proofs.lemmas.Result.{err_from_is_err_and}
use Rattle.header_fields.proofs.Loops.{goes_on, refuses, ends}
use Rattle.ref_picture_sets.proofs.Entries.{outward_is_loop}
use Rattle.ref_picture_sets.proofs.short_term_explicit.outward.Goals as goal

pub returns-in_err-further : goal.returns-in_err-further
returns-in_err-further c =
    let p = err_from_is_err_and c.from_residual.result c.from_residual.ensures.1 in
    rw (p.1, p.2) (refuses (outward_is_loop c.args.reader.now.rules c.args.negative c.args.count) c.loop.counter
    (c.loop.entries, c.loop.distance) c.in_err-further.field-0.0 _ c.loop.reader c.step.new.reader c.loop.invariant.at
    c.loop-test.true c.in_err-further.ensures.value)

pub loop-preserved : goal.loop-preserved
loop-preserved c = record {
  at =
      rw (c.in_ok-push.ensures.ok, c.entry_at.ensures) (goes_on
      (outward_is_loop c.args.reader.now.rules c.args.negative c.args.count) c.loop.counter
      (c.loop.entries, c.loop.distance) (c.in_ok-further.further, c.in_ok-further.used) _ c.loop.reader
      c.step.new.reader c.loop.invariant.at c.loop-test.true c.in_ok-further.ensures.value);
  far = omega (arith, c.in_ok-further.ensures.small);
}

pub returns : goal.returns
returns c =
    ends (outward_is_loop c.args.reader.now.rules c.args.negative c.args.count) c.loop.counter
    (c.loop.entries, c.loop.distance) _ c.loop.reader c.loop.invariant.at c.loop-test.false
