use Rattle.progress_words.specs.Passes.{view}
use Rattle.unit_reach.specs.Ranges.{one}
use Rattle.row_waits.proofs.Rows.{ranges_stay, reach_both, reach_first, reach_second}
use Rattle.row_waits.proofs.Waited.{looked_on, still_holds}
use Rattle.row_waits.proofs.reach.wait_for_item.Goals as goal

pub wait_for_range-requires-clause-earlier : goal.wait_for_range-requires-clause-earlier
wait_for_range-requires-clause-earlier g c =
    reach_first c.args.source.now c.args.item c.item_reach-reach.result c.item_reach-reach.ensures
    c.args.at.now.line.picture c.requires.earlier

pub wait_for_range-requires-in-Ready-clause-may : goal.wait_for_range-requires-in-Ready-clause-may
wait_for_range-requires-in-Ready-clause-may g c = c.wait_for_range.ensures.may

pub wait_for_range-requires-in-Ready-clause-earlier : goal.wait_for_range-requires-in-Ready-clause-earlier
wait_for_range-requires-in-Ready-clause-earlier g c =
    reach_second c.args.source.now c.args.item c.item_reach-reach.result c.item_reach-reach.ensures
    c.args.at.now.line.picture c.requires.earlier

pub returns-in-Ready-clause-ready : goal.returns-in-Ready-clause-ready
returns-in-Ready-clause-ready g c ready =
    let s = c.args.picture.now.layout.now in
    let after = c.wait_for_range-in-Ready.ensures in
    reach_both c.args.source.now c.args.item c.item_reach-reach.result c.item_reach-reach.ensures s
    c.wait_for_range-in-Ready.new.seen
    (ranges_stay s c.wait_for_range.new.seen c.wait_for_range-in-Ready.new.seen after.looked.more
    (one c.item_reach-reach.result.list_0) (c.wait_for_range.ensures.ready c.in-Ready.is))
    (after.ready ready)

pub returns-in-Ready-clause-ended : goal.returns-in-Ready-clause-ended
returns-in-Ready-clause-ended g c stopped holds =
    c.wait_for_range-in-Ready.ensures.ended stopped
    (still_holds (view c.args.pass.now) (view c.wait_for_range.new.pass) c.args.at.now
    c.wait_for_range.ensures.looked.waited holds)

pub returns-in-Ready-clause-looked : goal.returns-in-Ready-clause-looked
returns-in-Ready-clause-looked g c =
    looked_on c.args.at.now c.args.pass.now c.wait_for_range.new.pass c.wait_for_range-in-Ready.new.pass c.args.seen.now
    c.wait_for_range.new.seen c.wait_for_range-in-Ready.new.seen c.wait_for_range.ensures.looked
    c.wait_for_range-in-Ready.ensures.looked
