use Rattle.std.proofs.Common.{arith}
use Rattle.taken_pictures.specs.Kept.{kept_at}
use Rattle.taken_pictures.proofs.Laid.{run_begun, run_more}
use Rattle.taken_pictures.proofs.place_rows.run_end.Goals as goal

pub loop-end-init : goal.loop-end-init
loop-end-init c =
    let column = c.requires.column in
    record {
      more = omega arith;
      inside = omega (arith, column);
      same = λ p address. run_begun (kept_at p address c.args.row.now) c.args.column;
    }

pub loop-end-preserved : goal.loop-end-preserved
loop-end-preserved c =
    let i = c.loop-end.invariant in
    let more = i.more in
    let test = c.loop-end-test.true in
    record {
      more = omega (arith, more);
      inside = omega (arith, test);
      same = λ p address.
          run_more (kept_at p address c.args.row.now) c.args.column c.loop-end.end (i.same p address)
          (c.is_same.ensures c.if-is_same.true p address);
    }
