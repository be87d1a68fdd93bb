use Rattle.std.proofs.Common.{◌<◌, length, sym, arith}
use Rattle.row_trees.proofs.Found.{has_own, is_current, item_of, none_left, reached_more}
use Rattle.row_trees.proofs.segments.search.Goals as goal

pub returns-then-address-behind-clause-value : goal.returns-then-address-behind-clause-value
returns-then-address-behind-clause-value c =
    let number = c.loop-number.number in
    let lt : number < length c.args.plan.now.segments = omega (arith, c.loop-number-test.true) in
    let s = item_of c.args.plan.now.segments number lt in
    let segment = c.segment_data-segment in
    sym (has_own c.args.plan.now number c.loop-number.first s segment.result (segment.ensures.value s)
    segment.ensures.first lt c.loop-number.invariant.reached c.args.address c.loop-number.invariant.behind
    (omega (arith, c.behind.ensures.value, c.if-address-behind.true)))

pub returns-then-address-behind-clause-current : goal.returns-then-address-behind-clause-current
returns-then-address-behind-clause-current c =
    let number = c.loop-number.number in
    let lt : number < length c.args.plan.now.segments = omega (arith, c.loop-number-test.true) in
    let s = item_of c.args.plan.now.segments number lt in
    let segment = c.segment_data-segment in
    is_current c.args.plan.now number c.loop-number.first s segment.result (segment.ensures.value s)
    segment.ensures.first lt c.loop-number.invariant.reached segment.ensures.number

pub loop-number-preserved : goal.loop-number-preserved
loop-number-preserved c =
    let number = c.loop-number.number in
    let lt : number < length c.args.plan.now.segments = omega (arith, c.loop-number-test.true) in
    let s = item_of c.args.plan.now.segments number lt in
    let segment = c.segment_data-segment in
    record {
      reached = rw c.behind-first.ensures.value (reached_more c.args.plan.now number c.loop-number.first s
          segment.result (segment.ensures.value s) segment.ensures.first lt c.loop-number.invariant.reached
          segment.ensures.behind segment.ensures.inside);
      behind = omega (arith, c.behind.ensures.value, c.behind-first.ensures.value, c.if-address-behind.false);
    }

pub returns-clause-value : goal.returns-clause-value
returns-clause-value c =
    sym (none_left c.args.plan.now c.loop-number.number c.loop-number.first c.args.address
    c.loop-number.invariant.reached (omega (arith, c.loop-number-test.false)) c.loop-number.invariant.behind)
