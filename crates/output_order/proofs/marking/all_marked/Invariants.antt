-- The pictures so far and the later ones are all.
use Rattle.std.proofs.Common.{◌≡◌, ◌++◌, drop}
use Rattle.spec_output_order.specs.OutputOrder.{all_marked}
use Rattle.output_order.proofs.marking.all_marked.Given as goal

abbrev pub invariant-loop-i : goal.invariant-loop-i
invariant-loop-i l = l.pictures ++ all_marked (drop l.i l.dpb) (drop l.i l.marks) ≡ all_marked l.dpb l.marks
