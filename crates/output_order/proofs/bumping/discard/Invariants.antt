-- The pictures so far aren't needed for output any more, and the later ones are as they were.
use Rattle.std.proofs.Common.{◌≡◌, ◌++◌, drop, length, take}
use Rattle.spec_output_order.specs.OutputOrder.{discarded}
use Rattle.output_order.proofs.bumping.discard.Given as goal

abbrev pub invariant-loop-i : goal.invariant-loop-i
invariant-loop-i l = record {
  value : l.pictures ≡ discarded (take l.i l.fn.pictures) ++ drop l.i l.fn.pictures;
  same : length l.pictures ≡ length l.fn.pictures;
}
