-- The levels that were passed are added.
use Rattle.std.proofs.Common.{◌≡◌, ◌+◌, take, length}
use Rattle.std.specs.Prelude.{fold}
use Rattle.spec_slice_data.specs.Residual.{with_level}
use Rattle.transform_tree.proofs.coded_block.add_residual.Given as goal

abbrev pub invariant-loop-level : goal.invariant-loop-level
invariant-loop-level l =
    (l.records ≡ fold (with_level l.block.log2_size) l.initial.records (take l.level-index l.level-items))
    × (length l.records.items ≡ length l.initial.records.items + l.level-index)
