use Rattle.std.proofs.Common.{◌+◌, arith, get_or}
use Rattle.std.proofs.lemmas.List.{append_assoc}
use Rattle.spec_slice_headers.specs.Substreams.{substream_ranges, unit_place}
use Rattle.spec_slice_headers.proofs.Ranges.{hold, are_inside}
use Rattle.slice_headers.proofs.UnitPlaces.{Alike, last_range, one_range, same_ranges}
use Rattle.slice_headers.proofs.entry_points.substreams.Goals as goal

pub loop-offset-init : goal.loop-offset-init
unfolding substream_ranges
loop-offset-init c =
    let alike : Alike c.args.payload.now c.args.removed.now c.place_up_to-place.result
    (unit_place c.args.removed.now c.args.first) =
    omega (arith, c.place_up_to-place.ensures, c.unit_end-end.ensures.value) in
    rw c.new-found.ensures (same_ranges c.args.payload.now c.args.removed.now _ _ c.args.offsets.now alike)

pub loop-offset-preserved : goal.loop-offset-preserved
loop-offset-preserved c =
    let alike : Alike c.args.payload.now c.args.removed.now
    (c.loop-offset.place + get_or c.args.offsets.now c.loop-offset.offset-index 0) c.next_place-next.result =
    omega (arith, c.next_place-next.ensures, c.unit_end-end.ensures.value) in
    let found =
    one_range c.args.payload.now c.args.removed.now c.args.offsets.now c.loop-offset.place c.loop-offset.offset-index
    c.next_place-next.result (omega arith) alike in
    rw (c.in_ok-push.ensures.ok, append_assoc, c.range_between.ensures) (rw found at c.loop-offset.invariant)

pub returns-clause-ranges : goal.returns-clause-ranges
returns-clause-ranges c =
    let found =
    last_range c.args.payload.now c.args.removed.now c.args.offsets.now c.loop-offset.place c.loop-offset.offset-index
    (omega arith) in
    rw (c.in_ok-push-2.ensures.ok, c.range_from.ensures) (rw found at c.loop-offset.invariant)

pub returns-clause-value : goal.returns-clause-value
returns-clause-value c =
    rw (returns-clause-ranges c) (hold c.args.payload.now c.args.removed.now c.args.first c.args.offsets.now)

pub returns-clause-inside : goal.returns-clause-inside
returns-clause-inside c =
    rw (returns-clause-ranges c) (are_inside c.args.payload.now c.args.removed.now c.args.first c.args.offsets.now)
