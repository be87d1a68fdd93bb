use Rattle.std.proofs.Common.{ℕ, ◌+◌, ◌*◌, ◌<◌, ◌≡◌, inl, inr, subst, arith, ◌∙◌}
use Rattle.std.proofs.lemmas.Bool.{cases_lt}
use Rattle.ctu_records.specs.Places.{by_place}
use Rattle.spec_boundary_strengths.specs.declared.place.UnitPlace.{UnitPlace}
use Rattle.spec_boundary_strengths.specs.Places.{unit_place}
use Rattle.boundary_strengths.specs.Held.{beside_of}
use Rattle.boundary_strengths.proofs.places.fill.Goals as goal

pub loop-y-preserved : goal.loop-y-preserved
loop-y-preserved g c = λ marked small i j d few low.
    let sides = c.args.sides.now in
    let y = c.loop-y.y in
    let at : ℕ → UnitPlace =
    unit_place (beside_of sides (g.V.PlaceMotions.motion_at c.args.view.now)) sides.pcm_loop_filter_disabled
    sides.qp_bd_offset c.args.records.now.items i in
    elim (cases_lt j y) [
      | inl below ↦
          let before : 16 * j + i < 16 * y = omega (arith, below, few, c.requires.side) in
          c.fill_row.ensures.above (16 * j + i) d before ∙ c.loop-y.invariant marked small i j d few below
      | inr above ↦
          let same : y ≡ j = omega (arith, low, above) in
          subst (λ (k : ℕ). by_place d c.fill_row.new.places i k ≡ at k) same
          (c.fill_row.ensures.row marked small i d few)
    ]
