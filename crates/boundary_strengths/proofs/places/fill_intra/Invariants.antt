use Rattle.std.proofs.Common.{◌≡◌, ℕ, ◌+◌, ◌<◌, ◌≤◌, Option, None}
use Rattle.ctu_records.specs.Places.{by_place}
use Rattle.ctu_records.specs.Tree.{qp_at}
use Rattle.spec_boundary_strengths.specs.PictureBuffer.{PlaceMotion}
use Rattle.spec_boundary_strengths.specs.declared.place.UnitPlace.{UnitPlace}
use Rattle.spec_boundary_strengths.specs.Places.{unit_place}
use Rattle.boundary_strengths.specs.Held.{AreMarked, beside_of}
use Rattle.boundary_strengths.proofs.places.fill_intra.Given as goal

abbrev pub invariant-loop-y : goal.invariant-loop-y
invariant-loop-y l =
    AreMarked l.sides.pcm_loop_filter_disabled l.records.items l.marks → ((i j : ℕ) → qp_at l.records.items i j ≤ 127)
    → (motion : ℕ → ℕ → Option PlaceMotion)
    → ((i j : ℕ) → i < l.side → j < l.side → motion (i + 1) (j + 1) ≡ None)
    → (i j : ℕ) (d : UnitPlace) → i < l.side → j < l.y
    → by_place d l.places i j
    ≡ unit_place (beside_of l.sides motion) l.sides.pcm_loop_filter_disabled l.sides.qp_bd_offset l.records.items i j
