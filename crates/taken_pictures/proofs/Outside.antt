-- A picture keeps no motion outside, and planes and fields have nothing there.
use Rattle.std.proofs.Common.{◌≡◌, ℕ, zero, suc, ◌/◌, Bool, true, false, ◌&&◌, ◌==◌, arith, if◌then◌else◌, refl}
use Rattle.std.proofs.Common.{ap, ◌∙◌, List, [], ◌∷◌, Option, Some, None, slice_get, fold, nat_lt, cond}
use Rattle.std.proofs.lemmas.Bool.Decides.{nat_tests}
use Rattle.plan_types.specs.declared.picture_plan.PicturePlan.{PicturePlan}
use Rattle.plan_types.specs.declared.segment_plan.SegmentPlan.{SegmentPlan}
use Rattle.picture_buffer.specs.declared.place_motion.PlaceMotion.{PlaceMotion}
use Rattle.picture_buffer.specs.Motion.{FieldPlaces, HasPlaces, motions_of as motions_held}
use Rattle.picture_buffer.specs.Planes.{HasSides, PictureSamples, PlaneSamples, plane_at, samples_of}
use Rattle.row_above_laws.specs.SpecPictureBuild.{motions_of}
use Rattle.spec_picture_motion.specs.Derived.{References, added_in, unit_added, units_derived, with_unit}
use Rattle.spec_picture_motion.specs.Field.{Motions, no_motions, unit_laid}
use Rattle.spec_picture_trees.specs.Picture.{TreeUnit}
use Rattle.spec_picture_trees.specs.Places.{has_place}
use Rattle.spec_picture_trees.specs.Shapes.{picture_shape}
use Rattle.spec_known_units.specs.Known.{known_units}
use Rattle.sample_lines.proofs.FactsOfFlights.{folded_motion}
use Rattle.spec_flights.specs.Pictures.{PlannedFlight, folded_at, folded_in, pictures_before}
use Rattle.sample_words.specs.Contents.{component_side}

none_laid : (b t : Bool) (x y : Option PlaceMotion) → b ≡ false → y ≡ None → (if b && t then x else y) ≡ None
none_laid false t x y out e = e
none_laid true t x y out e = absurd cc

module _ (pictures : References) (p : PicturePlan) (x y : ℕ)
    (out : has_place (picture_shape p.sps p.pps) x y ≡ false) where
  added_none : (o : Option SegmentPlan) (u : TreeUnit) (m : Motions) → m x y ≡ None
      → added_in pictures p o u m x y ≡ None
  unfolding unit_added unit_laid
  added_none None u m e = e
  added_none (Some s) u m e = none_laid (has_place (picture_shape p.sps p.pps) x y) _ _ (m x y) out e

  fold_none : (units : List TreeUnit) (m : Motions) → m x y ≡ None
      → fold (with_unit pictures p) m units x y ≡ None
  fold_none [] m e = e
  fold_none (u ∷ later) m e =
      fold_none later (with_unit pictures p m u) (added_none (slice_get p.segments u.segment) u m e)

  pub derived_none : (units : List TreeUnit) → units_derived pictures p units x y ≡ None
  unfolding units_derived
  derived_none units = fold_none units no_motions refl

-- where a picture of a flight has no place, no motion is kept
pub none_kept : (f : PlannedFlight) (k : ℕ) (p : PicturePlan) (x y : ℕ) → slice_get f.pictures k ≡ Some p
    → has_place (picture_shape p.sps p.pps) x y ≡ false → (folded_at f k).motions x y ≡ None
unfolding folded_at
none_kept f k p x y has out =
    ap (λ o. (folded_in (pictures_before f k) o).motions x y) has
    ∙ (ap (λ (m : Motions). m x y) (folded_motion (pictures_before f k) p (known_units p))
    ∙ derived_none (motions_of (pictures_before f k)) p x y out (known_units p))

-- nor does a field have any
none_if : {X : Type 0} (b : Bool) (x y : X) → b ≡ false → cond b x y ≡ y
none_if false x y e = refl
none_if true x y e = absurd cc

pub none_held : (field : FieldPlaces) (across down x y : ℕ) → HasPlaces field across down
    → (nat_lt x across && nat_lt y down) ≡ false → motions_held field x y ≡ None
unfolding motions_held
none_held field across down x y has out =
    none_if (nat_lt x field.across && nat_lt y field.down) _ None
    (ap (λ a. nat_lt x a && nat_lt y field.down) has.columns ∙ (ap (λ d. nat_lt x across && nat_lt y d) has.rows ∙ out))

-- planes have no samples there
plane_none : (plane : PlaneSamples) (w h x y : ℕ) → plane.width ≡ w → plane.height ≡ h
    → (nat_lt x w && nat_lt y h) ≡ false → plane_at plane x y ≡ 0
unfolding plane_at
plane_none plane w h x y wide high out =
    none_if (nat_lt x plane.width && nat_lt y plane.height) _ 0
    (ap (λ a. nat_lt x a && nat_lt y plane.height) wide ∙ (ap (λ d. nat_lt x w && nat_lt y d) high ∙ out))

pub none_lies : (planes : PictureSamples) (width height c x y : ℕ) → HasSides planes width height
    → (nat_lt c 3 && (nat_lt x (component_side c width) && nat_lt y (component_side c height))) ≡ false
    → samples_of planes c x y ≡ 0
unfolding samples_of
none_lies planes width height zero x y sides out =
    plane_none planes.luma width height x y sides.luma_width sides.luma_height out
none_lies planes width height (suc zero) x y sides out =
    plane_none planes.cb (width / 2) (height / 2) x y sides.cb_width sides.cb_height out
none_lies planes width height (suc (suc zero)) x y sides out =
    plane_none planes.cr (width / 2) (height / 2) x y sides.cr_width sides.cr_height out
none_lies planes width height (suc (suc (suc c))) x y sides out =
    let luma : (suc (suc (suc c)) == 0) ≡ false = grind (arith, nat_tests) in
    let cb : (suc (suc (suc c)) == 1) ≡ false = grind (arith, nat_tests) in
    let cr : (suc (suc (suc c)) == 2) ≡ false = grind (arith, nat_tests) in
    rw (luma, cb, cr) refl
