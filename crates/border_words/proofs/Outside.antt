-- A picture keeps no motion outside.
use Rattle.std.proofs.Common.{◌≡◌, ℕ, ◌≤◌, Bool, true, false, ◌&&◌, if◌then◌else◌, refl, ap}
use Rattle.std.proofs.Common.{◌∙◌, List, [], ◌∷◌, Option, Some, None, slice_get, fold}
use Rattle.std.proofs.lemmas.Bool.{le-ltb}
use Rattle.plan_types.specs.declared.picture_plan.PicturePlan.{PicturePlan}
use Rattle.plan_types.specs.declared.segment_plan.SegmentPlan.{SegmentPlan}
use Rattle.picture_buffer.specs.declared.place_motion.PlaceMotion.{PlaceMotion}
use Rattle.spec_picture_build.specs.References.{motions_of}
use Rattle.spec_picture_motion.specs.Derived.{References, added_in, unit_added, units_derived, with_unit}
use Rattle.spec_picture_motion.specs.Field.{Motions, no_motions, unit_laid}
use Rattle.spec_picture_trees.specs.Picture.{TreeUnit}
use Rattle.spec_picture_trees.specs.Places.{has_place}
use Rattle.spec_picture_trees.specs.Shapes.{picture_shape}
use Rattle.spec_known_units.specs.Known.{known_units}
use Rattle.sample_lines.proofs.FactsOfFlights.{folded_motion}
use Rattle.spec_flights.specs.Pictures.{PlannedFlight, folded_at, folded_in, pictures_before}

none_laid : (b t : Bool) (x y : Option PlaceMotion) → b ≡ false → y ≡ None → (if b && t then x else y) ≡ None
none_laid false t x y out e = e
none_laid true t x y out e = absurd cc

module _ (pictures : References) (p : PicturePlan) (x y : ℕ)
    (out : has_place (picture_shape p.sps p.pps) x y ≡ false) where
  added_none : (o : Option SegmentPlan) (u : TreeUnit) (m : Motions) → m x y ≡ None
      → added_in pictures p o u m x y ≡ None
  unfolding unit_added unit_laid
  added_none None u m e = e
  added_none (Some s) u m e = none_laid (has_place (picture_shape p.sps p.pps) x y) _ _ (m x y) out e

  fold_none : (units : List TreeUnit) (m : Motions) → m x y ≡ None
      → fold (with_unit pictures p) m units x y ≡ None
  fold_none [] m e = e
  fold_none (u ∷ later) m e =
      fold_none later (with_unit pictures p m u) (added_none (slice_get p.segments u.segment) u m e)

  pub derived_none : (units : List TreeUnit) → units_derived pictures p units x y ≡ None
  unfolding units_derived
  derived_none units = fold_none units no_motions refl

right_of : (a b : Bool) → a ≡ false → (a && b) ≡ false
right_of false b e = refl
right_of true b e = absurd cc

below : (a b : Bool) → b ≡ false → (a && b) ≡ false
below false b e = refl
below true b e = e

module _ (f : PlannedFlight) (k : ℕ) (p : PicturePlan) (has : slice_get f.pictures k ≡ Some p) where
  none_where : (x y : ℕ) → has_place (picture_shape p.sps p.pps) x y ≡ false → (folded_at f k).motions x y ≡ None
  unfolding folded_at
  none_where x y out =
      ap (λ o. (folded_in (pictures_before f k) o).motions x y) has
      ∙ (ap (λ (m : Motions). m x y) (folded_motion (pictures_before f k) p (known_units p))
      ∙ derived_none (motions_of (pictures_before f k)) p x y out (known_units p))

  pub none_right : (x y : ℕ) → (picture_shape p.sps p.pps).across ≤ x → (folded_at f k).motions x y ≡ None
  none_right x y past = none_where x y (right_of _ _ (le-ltb _ _ past))

  pub none_below : (x y : ℕ) → (picture_shape p.sps p.pps).down ≤ y → (folded_at f k).motions x y ≡ None
  none_below x y past = none_where x y (below _ _ (le-ltb _ _ past))
