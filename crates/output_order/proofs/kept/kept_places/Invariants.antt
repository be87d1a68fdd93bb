-- The places so far and those of the later pictures are all.
use Rattle.std.proofs.Common.{◌≡◌, ◌++◌, drop}
use Rattle.spec_output_order.specs.OutputOrder.{kept_from}
use Rattle.output_order.proofs.kept.kept_places.Given as goal

abbrev pub invariant-loop-i : goal.invariant-loop-i
invariant-loop-i l = l.kept ++ kept_from l.i (drop l.i l.pictures) ≡ kept_from 0 l.pictures
