use Rattle.std.proofs.Common.{◌≡◌, ℕ, map}
use Rattle.std.specs.List.{range_with_len}
use Rattle.flight_plan.specs.declared.row_range.Reference.TheVariants.{Base}
use Rattle.flight_names.proofs.buffer_names.BufferNames.of_bases.Given as goal

abbrev pub invariant-loop-place : goal.invariant-loop-place
invariant-loop-place l = l.names.items ≡ map Base (range_with_len 0 l.place)
