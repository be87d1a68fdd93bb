-- The pictures so far are those of the buffer.
use Rattle.std.proofs.Common.{◌≡◌, take}
use Rattle.std.specs.List.{filter}
use Rattle.spec_output_order.specs.OutputOrder.{is_kept}
use Rattle.output_order.proofs.kept.kept_pictures.Given as goal

abbrev pub invariant-loop-picture : goal.invariant-loop-picture
invariant-loop-picture l = l.dpb ≡ filter is_kept (take l.picture-index l.pictures)
