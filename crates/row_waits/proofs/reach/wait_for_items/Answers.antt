use Rattle.std.proofs.Common.{arith, refl}
use Rattle.progress_words.specs.Passes.{view}
use Rattle.row_waits.proofs.Rows.{items_more}
use Rattle.row_waits.proofs.Waited.{looked_on, not_looked, still_holds}
use Rattle.row_waits.proofs.reach.wait_for_items.Goals as goal

pub wait_for_item-requires-clause-may : goal.wait_for_item-requires-clause-may
wait_for_item-requires-clause-may g c = c.loop-k.invariant.may

pub loop-k-init : goal.loop-k-init
loop-k-init g c = record {
  may = c.requires.may;
  looked = not_looked c.args.at.now c.args.pass.now c.args.seen.now;
  has = λ i d less. absurd (omega (arith, less));
}

pub loop-k-preserved : goal.loop-k-preserved
loop-k-preserved g c =
    let e = c.wait_for_item.ensures in
    record {
      may = e.may;
      looked = looked_on c.args.at.now c.args.pass.now c.loop-k.pass c.wait_for_item.new.pass c.args.seen.now
          c.loop-k.seen c.wait_for_item.new.seen c.loop-k.invariant.looked e.looked;
      has = items_more c.args.picture.now.layout.now c.loop-k.seen c.wait_for_item.new.seen e.looked.more
          c.args.source.now c.args.items.now c.loop-k.k _ _ c.loop-k-test.true refl c.loop-k.invariant.has
          (e.ready c.in-Ready.is);
    }

pub returns-in-Stopped-clause-ended : goal.returns-in-Stopped-clause-ended
returns-in-Stopped-clause-ended g c stopped holds =
    c.wait_for_item.ensures.ended c.in-Stopped.is
    (still_holds (view c.args.pass.now) (view c.loop-k.pass) c.args.at.now c.loop-k.invariant.looked.waited holds)

pub returns-in-Stopped-clause-looked : goal.returns-in-Stopped-clause-looked
returns-in-Stopped-clause-looked g c =
    looked_on c.args.at.now c.args.pass.now c.loop-k.pass c.wait_for_item.new.pass c.args.seen.now
    c.loop-k.seen c.wait_for_item.new.seen c.loop-k.invariant.looked c.wait_for_item.ensures.looked

pub returns-clause-ready : goal.returns-clause-ready
returns-clause-ready g c ready i d less =
    let past = c.loop-k-test.false in c.loop-k.invariant.has i d (omega (arith, less, past))
