use Rattle.std.proofs.Common.{◌≡◌, ℕ, ◌<◌, ◌≤◌}
use Rattle.ctu_records.specs.Places.{by_place}
use Rattle.ctu_records.specs.Tree.{qp_at}
use Rattle.spec_boundary_strengths.specs.declared.place.UnitPlace.{UnitPlace}
use Rattle.spec_boundary_strengths.specs.Places.{unit_place}
use Rattle.boundary_strengths.specs.Held.{AreMarked, beside_of}
use Rattle.boundary_strengths.proofs.places.fill.Given as goal

abbrev pub invariant-loop-y : goal.invariant-loop-y
invariant-loop-y g l =
    AreMarked l.sides.pcm_loop_filter_disabled l.records.items l.marks → ((i j : ℕ) → qp_at l.records.items i j ≤ 127)
    → (i j : ℕ) (d : UnitPlace) → i < l.side → j < l.y
    → by_place d l.places i j
    ≡ unit_place (beside_of l.sides (g.V.PlaceMotions.motion_at l.view)) l.sides.pcm_loop_filter_disabled
    l.sides.qp_bd_offset l.records.items i j
