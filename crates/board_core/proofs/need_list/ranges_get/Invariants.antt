use Rattle.std.proofs.Common.{◌≡◌, drop}
use Rattle.std.specs.Prelude.{slice_get}
use Rattle.std.specs.List.{flat_map}
use Rattle.board_core.specs.Needs.{range_needs}
use Rattle.board_core.proofs.need_list.ranges_get.Given as goal

abbrev pub invariant-loop-range : goal.invariant-loop-range
invariant-loop-range l =
    slice_get (flat_map (range_needs l.fn.plan) l.ranges) l.index
    ≡ slice_get (flat_map (range_needs l.fn.plan) (drop l.range-index l.ranges)) l.left
