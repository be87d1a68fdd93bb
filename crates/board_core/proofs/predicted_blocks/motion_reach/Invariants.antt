use Rattle.std.proofs.Common.{◌≡◌, map, take}
use Rattle.board_core.specs.Reach.{range_of}
use Rattle.board_core.proofs.predicted_blocks.motion_reach.Given as goal

abbrev pub invariant-loop-block : goal.invariant-loop-block
invariant-loop-block l = l.ranges ≡ map (range_of l.fn.lines) (take l.block-index l.blocks)
