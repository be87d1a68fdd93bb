use Rattle.flight_views.proofs.Formats.{formats_more, one_longer}
use Rattle.flight_views.proofs.picture_formats.formats_of.Goals as goal

pub loop-place-preserved : goal.loop-place-preserved
loop-place-preserved c =
    let plans = c.args.plans.now in
    let n = c.loop-place.place in
    let here = c.index-plans-place in
    let old = c.loop-place.formats.items in
    let new = c.push.new.self.items in
    let inside = c.loop-place-test.true in
    let so_far = c.loop-place.invariant in
    let own = c.in_ok-own in
    let pushed = c.in_ok-push.ensures.items in (
      one_longer plans n here.result old new own.own inside here.is so_far.0 own.ensures pushed,
      formats_more plans n here.result old new own.own inside here.is so_far.0 own.ensures pushed so_far.1,
    )
