use Rattle.std.proofs.Common.{◌≡◌, ℕ, ◌<◌, false, slice_index_or}
use Rattle.picture_filters.specs.Places.{first_read}
use Rattle.picture_filters.proofs.place_field.is_any_kept.Given as goal

abbrev pub invariant-loop-k : goal.invariant-loop-k
invariant-loop-k l = record { none : (q : ℕ) → q < l.k → (slice_index_or l.read q first_read).kept ≡ false }
