-- The motion of each unit of a picture is the step of what stands beside it in the whole picture.
use Rattle.std.proofs.Common.{◌≡◌, ◌≢◌, ℕ, suc, ◌+◌, ◌-◌, ◌<◌, ◌≤◌, Bool, true, false, Option, Some, None, List, []}
use Rattle.std.proofs.Common.{◌∷◌}
use Rattle.std.proofs.Common.{◌++◌, All, refl, sym, ap, ◌∙◌, if◌then◌else◌, slice_get, fold, arith}
use Rattle.std.proofs.lemmas.Bool.{false≢true}
use Rattle.picture_layout.specs.PlanTypes.{SegmentPlan}
use Rattle.picture_layout.specs.PlanTypes.{PicturePlan}
use Rattle.picture_layout.specs.PlanTypes.{address_of}
use Rattle.spec_picture_motion.specs.PictureBuffer.{PlaceMotion}
use Rattle.picture_layout.specs.SpecSliceData.{PictureShape}
use Rattle.spec_motion.specs.Vectors.{Known}
use Rattle.picture_layout.specs.SpecPictureTrees.{TreeUnit}
use Rattle.picture_layout.specs.SpecPictureTrees.{first_column, first_row, is_of_unit, unit_at, unit_places}
use Rattle.picture_layout.specs.SpecPictureTrees.{picture_shape, slice_start}
use Rattle.spec_picture_motion.specs.Derived.{References, added_in, collocated_motions, known_of_unit, unit_added}
use Rattle.spec_picture_motion.specs.Derived.{units_derived, with_unit}
use Rattle.spec_picture_motion.specs.Field.{Motions, no_motions, pointing_motion, unit_laid}
use Rattle.spec_picture_motion.specs.Slices.{collocated_entry, slice_motion}
use Rattle.locality_laws.specs.Motion.{MotionAgreesBeneath, MotionAgreesBeside}
use Rattle.locality_laws.proofs.Motion.{known_of_unit_agrees, motion_earlier, motion_stays, place_is}
use Rattle.locality_laws.proofs.Steps.{all_other}

if_same : {A : Type 0} (b : Bool) (x y v w : A) → b ≡ true → x ≡ y → (if b then x else v) ≡ (if b then y else w)
if_same true x y v w e same = same
if_same false x y v w e same = absurd (false≢true e)

module _ (pictures : References) (p : PicturePlan) where
  abbrev shape : PictureShape
  shape = picture_shape p.sps p.pps

  abbrev unit_of : ℕ → ℕ → ℕ
  unit_of x y = unit_at shape (unit_places shape) x y

  added_leaves : (s : Option SegmentPlan) (unit : TreeUnit) (motions : Motions) (x y : ℕ) → unit_of x y ≢ unit.ctu
      → added_in pictures p s unit motions x y ≡ motions x y
  unfolding unit_added
  added_leaves None unit motions x y other = refl
  added_leaves (Some s) unit motions x y other = motion_stays shape unit.ctu _ _ motions x y other

  later_leave : (later : List TreeUnit) (motions : Motions) (x y : ℕ)
      → All (λ (u : TreeUnit). unit_of x y ≢ u.ctu) later
      → fold (with_unit pictures p) motions later x y ≡ motions x y
  later_leave [] motions x y all = refl
  later_leave (u ∷ later) motions x y all =
      later_leave later (with_unit pictures p motions u) x y (λ k d inside. all (suc k) d (omega arith))
      ∙ added_leaves (slice_get p.segments u.segment) u motions x y (all 0 u (omega arith))

  folded : (before : List TreeUnit) (unit : TreeUnit) (later : List TreeUnit) (motions : Motions)
      → fold (with_unit pictures p) motions (before ++ unit ∷ later)
      ≡ fold (with_unit pictures p) (with_unit pictures p (fold (with_unit pictures p) motions before) unit) later
  folded [] unit later motions = refl
  folded (u ∷ before) unit later motions = folded before unit later (with_unit pictures p motions u)

  -- the motion of the whole picture, where units later than one stand behind it
  module _ (before later : List TreeUnit) (unit : TreeUnit) (s : SegmentPlan) where
    abbrev whole : Motions
    whole = units_derived pictures p (before ++ unit ∷ later)

    abbrev so_far : Motions
    so_far = units_derived pictures p before

    abbrev slice_at : ℕ
    slice_at = address_of (slice_start p s)

    whole_is : slice_get p.segments unit.segment ≡ Some s
        → whole ≡ fold (with_unit pictures p) (unit_added pictures p s unit so_far) later
    unfolding units_derived
    whole_is e =
        folded before unit later no_motions
        ∙ ap
        (λ o. fold (with_unit pictures p) (added_in pictures p o unit (fold (with_unit pictures p) no_motions before))
        later)
        e

    -- the motion of a place that isn't of a unit behind is the same in the whole picture
    pub motion_is_final : slice_get p.segments unit.segment ≡ Some s → All (λ (u : TreeUnit). unit.ctu < u.ctu) later
        → (x y : ℕ) → unit_of x y ≤ unit.ctu → unit_added pictures p s unit so_far x y ≡ whole x y
    motion_is_final e all x y most =
        sym (ap (λ (m : Motions). m x y) (whole_is e)
        ∙ later_leave later (unit_added pictures p s unit so_far) x y (all_other (unit_of x y) unit.ctu later most all))

    -- and of another unit's place before the unit is added
    earlier_stay : slice_get p.segments unit.segment ≡ Some s → All (λ (u : TreeUnit). unit.ctu < u.ctu) later
        → (x y : ℕ) → unit_of x y < unit.ctu → so_far x y ≡ whole x y
    earlier_stay e all x y first =
        sym (added_leaves (Some s) unit so_far x y (λ z. omega (arith, first, z)))
        ∙ motion_is_final e all x y (omega (arith, first))

    beside_stays : slice_get p.segments unit.segment ≡ Some s → All (λ (u : TreeUnit). unit.ctu < u.ctu) later
        → (g : Motions) → MotionAgreesBeside shape slice_at unit.ctu whole g
        → MotionAgreesBeside shape slice_at unit.ctu so_far g
    beside_stays e all g agree x y border there =
        earlier_stay e all x y (motion_earlier shape slice_at unit.ctu x y there) ∙ agree x y border there

    -- what is known of the unit's motion, over any that agrees with the picture's beside it
    pub known_is_its_step : (others : References) (g : Motions) → slice_get p.segments unit.segment ≡ Some s
        → All (λ (u : TreeUnit). unit.ctu < u.ctu) later → MotionAgreesBeside shape slice_at unit.ctu whole g
        → MotionAgreesBeneath shape unit.ctu
        (collocated_motions pictures (collocated_entry s.header.slice (slice_start p s).lists))
        (collocated_motions others (collocated_entry s.header.slice (slice_start p s).lists))
        → known_of_unit pictures p s unit so_far ≡ known_of_unit others p s unit g
    known_is_its_step others g e all beside beneath =
        known_of_unit_agrees pictures others p s unit so_far g (beside_stays e all g beside) beneath

    -- the unit's motion in the whole picture is its step
    pub motion_is_its_step : (others : References) (g : Motions) (x y : ℕ)
        → slice_get p.segments unit.segment ≡ Some s → All (λ (u : TreeUnit). unit.ctu < u.ctu) later
        → MotionAgreesBeside shape slice_at unit.ctu whole g
        → MotionAgreesBeneath shape unit.ctu
        (collocated_motions pictures (collocated_entry s.header.slice (slice_start p s).lists))
        (collocated_motions others (collocated_entry s.header.slice (slice_start p s).lists))
        → is_of_unit shape unit.ctu x y ≡ true → whole x y ≡ unit_added others p s unit g x y
    unfolding unit_added unit_laid
    motion_is_its_step others g x y e all beside beneath mine =
        let mine_is = place_is shape unit.ctu x y mine in
        sym (motion_is_final e all x y (omega (arith, mine_is)))
        ∙ if_same {A = Option PlaceMotion} (is_of_unit shape unit.ctu x y) _ _ (so_far x y) (g x y) mine
        (ap (λ (k : Known). pointing_motion (slice_motion p s unit.ctu)
        (k (x - first_column shape unit.ctu + 1) (y - first_row shape unit.ctu + 1)))
        (known_is_its_step others g e all beside beneath))
