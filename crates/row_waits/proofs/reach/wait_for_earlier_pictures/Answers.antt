use Rattle.std.proofs.Common.{ap, arith}
use Rattle.hv_base.specs.declared.line.Line.{Line}
use Rattle.progress_words.specs.Passes.{view}
use Rattle.row_waits.proofs.Rows.{pictures_more}
use Rattle.row_waits.proofs.Waited.{looked_on, not_looked, still_holds}
use Rattle.row_waits.proofs.reach.wait_for_earlier_pictures.Goals as goal

pub wait_for_rows-requires-clause-may : goal.wait_for_rows-requires-clause-may
wait_for_rows-requires-clause-may g c = c.loop-other.invariant.may

pub loop-other-init : goal.loop-other-init
loop-other-init g c = record {
  may = c.requires.may;
  looked = not_looked c.args.at.now c.args.pass.now c.args.seen.now;
  has = λ j row less. absurd (omega (arith, less));
}

pub loop-other-preserved : goal.loop-other-preserved
loop-other-preserved g c =
    let e = c.wait_for_rows.ensures in
    record {
      may = e.may;
      looked = looked_on c.args.at.now c.args.pass.now c.loop-other.pass c.wait_for_rows.new.pass c.args.seen.now
          c.loop-other.seen c.wait_for_rows.new.seen c.loop-other.invariant.looked e.looked;
      has = pictures_more c.args.picture.now.layout.now c.loop-other.seen c.wait_for_rows.new.seen c.loop-other.other
          c.rows-end.result c.rows-end.ensures.value e.looked.more c.loop-other.invariant.has (e.ready c.in-Ready.is);
    }

pub returns-in-Stopped-clause-ended : goal.returns-in-Stopped-clause-ended
returns-in-Stopped-clause-ended g c stopped holds =
    c.wait_for_rows.ensures.ended c.in-Stopped.is
    (still_holds (view c.args.pass.now) (view c.loop-other.pass) c.args.at.now c.loop-other.invariant.looked.waited
    holds)

pub returns-in-Stopped-clause-looked : goal.returns-in-Stopped-clause-looked
returns-in-Stopped-clause-looked g c =
    looked_on c.args.at.now c.args.pass.now c.loop-other.pass c.wait_for_rows.new.pass c.args.seen.now
    c.loop-other.seen c.wait_for_rows.new.seen c.loop-other.invariant.looked c.wait_for_rows.ensures.looked

pub returns-clause-ready : goal.returns-clause-ready
returns-clause-ready g c ready j row less =
    let past = c.loop-other-test.false in
    let e = ap (λ (l : Line). l.picture) c.line-other-end.ensures.value in
    c.loop-other.invariant.has j row (omega (arith, less, past, e))
