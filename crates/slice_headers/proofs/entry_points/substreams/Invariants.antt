-- What was found so far and the ranges from the place on are all ranges.
use Rattle.std.proofs.Common.{◌≡◌, ◌++◌, drop}
use Rattle.spec_slice_headers.specs.Substreams.{ranges_from, substream_ranges}
use Rattle.slice_headers.proofs.entry_points.substreams.Given as goal

abbrev pub invariant-loop-offset : goal.invariant-loop-offset
invariant-loop-offset l =
    l.found ++ ranges_from l.payload l.removed l.place (drop l.offset-index l.offsets)
    ≡ substream_ranges l.payload l.removed l.first l.offsets
