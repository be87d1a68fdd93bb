-- The entries so far have places below the size.
use Rattle.std.proofs.Common.{◌≡◌, ℕ, ◌<◌, Some, slice_get}
use Rattle.header_types.specs.declared.reference_pictures.RefEntry.{RefEntry}
use Rattle.flight_ranges.proofs.plans.are_inside.Given as goal

abbrev pub invariant-loop-place : goal.invariant-loop-place
invariant-loop-place l =
    (k : ℕ) (e : RefEntry) → k < l.place → slice_get l.entries k ≡ Some e → e.place < l.size
