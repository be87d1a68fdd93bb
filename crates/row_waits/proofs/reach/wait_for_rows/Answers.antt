use Rattle.std.proofs.Common.{arith}
use Rattle.progress_words.specs.Passes.{view}
use Rattle.row_waits.proofs.Rows.{rows_more}
use Rattle.row_waits.proofs.Waited.{looked_on, not_looked, still_holds}
use Rattle.row_waits.proofs.reach.wait_for_rows.Goals as goal

pub wait_for_row-requires-clause-may : goal.wait_for_row-requires-clause-may
wait_for_row-requires-clause-may g c = c.loop-row.invariant.may

pub loop-row-init : goal.loop-row-init
loop-row-init g c = record {
  may = c.requires.may;
  looked = not_looked c.args.at.now c.args.pass.now c.args.seen.now;
  has = λ row low high. absurd (omega (arith, low, high));
}

pub loop-row-preserved : goal.loop-row-preserved
loop-row-preserved g c =
    let e = c.wait_for_row.ensures in
    record {
      may = e.may;
      looked = looked_on c.args.at.now c.args.pass.now c.loop-row.pass c.wait_for_row.new.pass c.args.seen.now
          c.loop-row.seen c.wait_for_row.new.seen c.loop-row.invariant.looked e.looked;
      has = rows_more c.args.picture.now.layout.now c.loop-row.seen c.wait_for_row.new.seen c.args.other c.args.first
          c.loop-row.row e.looked.more c.loop-row.invariant.has (e.ready c.in-Ready.is);
    }

pub returns-in-Stopped-clause-ended : goal.returns-in-Stopped-clause-ended
returns-in-Stopped-clause-ended g c stopped holds =
    c.wait_for_row.ensures.ended c.in-Stopped.is
    (still_holds (view c.args.pass.now) (view c.loop-row.pass) c.args.at.now c.loop-row.invariant.looked.waited holds)

pub returns-in-Stopped-clause-looked : goal.returns-in-Stopped-clause-looked
returns-in-Stopped-clause-looked g c =
    looked_on c.args.at.now c.args.pass.now c.loop-row.pass c.wait_for_row.new.pass c.args.seen.now
    c.loop-row.seen c.wait_for_row.new.seen c.loop-row.invariant.looked c.wait_for_row.ensures.looked

pub returns-clause-ready : goal.returns-clause-ready
returns-clause-ready g c ready row low high =
    let past = c.loop-row-test.false in c.loop-row.invariant.has row low (omega (arith, high, past))
