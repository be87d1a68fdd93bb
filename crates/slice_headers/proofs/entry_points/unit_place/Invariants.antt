-- The place so far is that with the bytes put back that were passed.
use Rattle.std.proofs.Common.{◌≡◌, ◌+◌, ◌≤◌, take}
use Rattle.std.specs.Prelude.{fold}
use Rattle.spec_slice_headers.specs.Substreams.{put_back}
use Rattle.slice_headers.proofs.entry_points.unit_place.Given as goal

abbrev pub invariant-loop-r : goal.invariant-loop-r
invariant-loop-r l =
    (l.place ≡ fold put_back (l.i + 2) (take l.r-index l.removed)) × (l.place ≤ l.i + 2 + l.r-index)
