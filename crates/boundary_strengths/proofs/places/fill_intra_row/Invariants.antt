use Rattle.std.proofs.Common.{◌≡◌, ℕ, ◌+◌, ◌*◌, ◌<◌, ◌≤◌, length, slice_index_or, Option, None}
use Rattle.ctu_records.specs.Tree.{qp_at}
use Rattle.spec_boundary_strengths.specs.PictureBuffer.{PlaceMotion}
use Rattle.spec_boundary_strengths.specs.declared.place.UnitPlace.{UnitPlace}
use Rattle.spec_boundary_strengths.specs.Places.{unit_place}
use Rattle.boundary_strengths.specs.Held.{AreMarked, beside_of}
use Rattle.boundary_strengths.proofs.places.fill_intra_row.Given as goal

abbrev pub invariant-loop-x : goal.invariant-loop-x
invariant-loop-x l = record {
  count : length l.places ≡ 256;
  row : AreMarked l.sides.pcm_loop_filter_disabled l.records.items l.marks
      → ((i j : ℕ) → qp_at l.records.items i j ≤ 127)
      → (motion : ℕ → ℕ → Option PlaceMotion) → ((i : ℕ) → i < l.side → motion (i + 1) (l.y + 1) ≡ None)
      → (q : ℕ) (d : UnitPlace) → q < l.x
      → slice_index_or l.places (16 * l.y + q) d
      ≡ unit_place (beside_of l.sides motion) l.sides.pcm_loop_filter_disabled l.sides.qp_bd_offset l.records.items
      q l.y;
  above : (q : ℕ) (d : UnitPlace) → q < 16 * l.y → slice_index_or l.places q d ≡ slice_index_or l.fn.places q d;
}
