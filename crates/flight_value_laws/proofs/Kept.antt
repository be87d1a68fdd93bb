-- The motion that a picture keeps of a place is determined by what the words of the place have.
use Rattle.std.proofs.Common.{◌≡◌, ℕ, ◌+◌, ◌-◌, ◌<◌, true, IfSome, Option, Some, None, List, ◌∷◌, ◌++◌, refl, sym, ap}
use Rattle.std.proofs.Common.{subst, ◌∙◌, slice_get, if◌then◌else◌, Bool, false, All}
use Rattle.std.specs.Option.{unwrap_or}
use Rattle.header_types.specs.SequenceParameterSets.{size_in_ctbs}
use Rattle.plan_types.specs.declared.picture_plan.PicturePlan.{PicturePlan}
use Rattle.plan_types.specs.declared.segment_plan.SegmentPlan.{SegmentPlan}
use Rattle.known_picture_laws.specs.PlanLaws.{IsPlan}
use Rattle.known_picture_laws.specs.PictureBuffer.{PlaceMotion}
use Rattle.spec_motion.specs.declared.slice_motion.SliceMotion.{SliceMotion}
use Rattle.spec_motion.specs.declared.vectors.Motion.{Motion}
use Rattle.spec_motion.specs.declared.vectors.Vector.{Vector}
use Rattle.spec_slice_data.specs.Segment.{PictureShape}
use Rattle.spec_known_units.specs.SpecPictureTrees.{TreeUnit}
use Rattle.spec_known_units.specs.SpecPictureTrees.{first_column, first_row, is_of_unit, unit_at, unit_places}
use Rattle.spec_known_units.specs.SpecPictureTrees.{picture_shape}
use Rattle.spec_known_units.specs.Known.{KnownUnit, known_units, units_known}
use Rattle.known_picture_laws.specs.SpecPictureMotion.{known_of_unit, unit_added, units_derived}
use Rattle.known_picture_laws.specs.SpecPictureMotion.{Motions, motion_of, pointing_motion, unit_laid}
use Rattle.known_picture_laws.specs.SpecPictureMotion.{slice_motion}
use Rattle.sample_laws.specs.SpecPictureBuild.{DecodedPicture, motions_of}
use Rattle.sample_laws.specs.SpecDecodedPictures.{DecodedUnits, units_folded}
use Rattle.known_picture_laws.proofs.LocalityLaws.{place_is}
use Rattle.known_picture_laws.proofs.LocalityLaws.{motion_is_its_step}
use Rattle.known_picture_laws.specs.Order.{IsInOrder}
use Rattle.known_picture_laws.proofs.FilterData.{folded_motion}
use Rattle.known_picture_laws.proofs.Order.{in_order}
use Rattle.known_picture_laws.specs.SpecFlights.{PlannedFlight, folded_at, known_folded, pictures_before}
use Rattle.known_picture_laws.specs.SpecFlights.{given_at}
use Rattle.known_picture_laws.specs.SpecFlights.{modes_at, no_vectors, segment_number, values_in}
use Rattle.flight_value_laws.specs.Motion.{HasOne, IsHeld, has_one, kept_in, kept_motion, motion_where}
use Rattle.flight_value_laws.specs.Ranges.{IsInRange}
use Rattle.flight_value_laws.proofs.Known.{IsKnownFit}
use Rattle.flight_value_laws.proofs.Pictures.{AreReferencesHeld, motion_again}
use Rattle.flight_value_laws.proofs.Values.{before_held, fit_at, folded_is, units_fit}

one_is : (a b : Option Vector) → HasOne a b → has_one a b ≡ true
one_is None None one = absurd one
one_is None (Some b) one = refl
one_is (Some a) b one = refl

-- the motion of a place is its value, where it has vectors
where_is : (o : Option Motion) → IfSome o IsHeld → motion_where (unwrap_or o no_vectors) ≡ o
where_is None is = refl
where_is (Some m) is = ap (λ b. if b then Some m else None) (one_is m.list_0 m.list_1 is.some)

if_there : {A : Type 0} (b : Bool) (x y : A) → b ≡ true → (if b then x else y) ≡ x
if_there true x y e = refl
if_there false x y e = absurd cc

module _ (p : PicturePlan) (plan : IsPlan p) (buffer : List DecodedPicture)
    (references : AreReferencesHeld (motions_of buffer)) (address : ℕ) (known : KnownUnit)
    (inside : address < size_in_ctbs p.sps) (is : units_known p address ≡ Some known) where
  abbrev shape : PictureShape
  shape = picture_shape p.sps p.pps

  abbrev whole : DecodedUnits
  whole = known_folded buffer p

  abbrev fit : IsKnownFit p plan.sps known
  fit = fit_at p plan address known is

  abbrev segment : SegmentPlan
  segment = fit.segment

  abbrev slice : SliceMotion
  slice = slice_motion p segment address

  abbrev unit : TreeUnit
  unit = given_at address known

  abbrev Steps : List TreeUnit → Type 0
  Steps units =
      (x y : ℕ) → is_of_unit shape address x y ≡ true
      → (units_folded buffer p units).motions x y
      ≡ unit_added (motions_of buffer) p segment unit (units_folded buffer p units).motions x y

  step_of : (before later : List TreeUnit) → All (λ (u : TreeUnit). address < u.ctu) later
      → Steps (before ++ unit ∷ later)
  step_of before later behind x y mine =
      let units : List TreeUnit = before ++ unit ∷ later in
      let e : (units_folded buffer p units).motions ≡ units_derived (motions_of buffer) p units =
      folded_motion buffer p units in
      subst (λ (m : Motions). m x y ≡ unit_added (motions_of buffer) p segment unit m x y) (sym e)
      (motion_is_its_step (motions_of buffer) p before later unit segment (motions_of buffer)
      (units_derived (motions_of buffer) p units) x y fit.has behind (λ i j border there. refl)
      (λ column row few down. refl) mine)

  step_is : Steps (known_units p)
  step_is =
      let o : IsInOrder (known_units p) (given_at address known) = in_order p address known inside is in
      subst Steps (sym o.is) (step_of o.before o.later o.behind)

  -- what is known of a place of the unit
  abbrev motion_at : ℕ → ℕ → Option Motion
  motion_at x y =
      known_of_unit (motions_of buffer) p segment unit whole.motions (x - first_column shape address + 1)
      (y - first_row shape address + 1)

  kept_is : (x y : ℕ) → is_of_unit shape address x y ≡ true
      → whole.motions x y ≡ pointing_motion slice (motion_at x y)
  unfolding unit_added unit_laid
  kept_is x y mine =
      step_is x y mine
      ∙ if_there {A = Option PlaceMotion} (is_of_unit shape address x y) _ (whole.motions x y) mine

  held_is : (x y : ℕ) → is_of_unit shape address x y ≡ true → IfSome (motion_at x y) IsHeld
  held_is x y mine =
      subst (λ o. IfSome o IsHeld) (ap motion_of (kept_is x y mine) ∙ motion_again slice (motion_at x y))
      ((units_fit p plan buffer references).motions x y)

  value_is : (x y : ℕ) → is_of_unit shape address x y ≡ true
      → motion_where (unwrap_or (motion_of (whole.motions x y)) no_vectors) ≡ motion_at x y
  value_is x y mine =
      ap (λ o. motion_where (unwrap_or (motion_of o) no_vectors)) (kept_is x y mine)
      ∙ ap (λ o. motion_where (unwrap_or o no_vectors)) (motion_again slice (motion_at x y))
      ∙ where_is (motion_at x y) (held_is x y mine)

  segment_is : (x y : ℕ) → is_of_unit shape address x y ≡ true
      → slice_get p.segments (segment_number (units_known p (unit_at shape (unit_places shape) x y))) ≡ Some segment
  segment_is x y mine =
      ap (λ a. slice_get p.segments (segment_number (units_known p a))) (place_is shape address x y mine)
      ∙ ap (λ o. slice_get p.segments (segment_number o)) is ∙ fit.has

  pub comes_back : (x y : ℕ) → is_of_unit shape address x y ≡ true
      → whole.motions x y
      ≡ kept_motion p address ((values_in p whole).modes x y) ((values_in p whole).motion x y)
  unfolding kept_motion values_in modes_at
  comes_back x y mine =
      kept_is x y mine
      ∙ sym (ap (kept_in p address (unwrap_or (motion_of (whole.motions x y)) no_vectors)) (segment_is x y mine)
      ∙ ap (pointing_motion slice) (value_is x y mine))

module _ (f : PlannedFlight) (range : IsInRange f) (k : ℕ) (p : PicturePlan)
    (has : slice_get f.pictures k ≡ Some p) where
  pub flight_comes_back : (address : ℕ) (known : KnownUnit) → address < size_in_ctbs p.sps
      → units_known p address ≡ Some known → (x y : ℕ)
      → is_of_unit (picture_shape p.sps p.pps) address x y ≡ true
      → (folded_at f k).motions x y
      ≡ kept_motion p address ((values_in p (folded_at f k)).modes x y) ((values_in p (folded_at f k)).motion x y)
  flight_comes_back address known inside is x y mine =
      subst
      (λ (d : DecodedUnits). d.motions x y
      ≡ kept_motion p address ((values_in p d).modes x y) ((values_in p d).motion x y))
      (sym (folded_is f range k p has))
      (comes_back p (range.plans k p has) (pictures_before f k) (before_held f range k) address known inside is x y
      mine)

  -- as units beside a place take it, at every place
  pub flight_beside : (x y : ℕ)
      → motion_of ((folded_at f k).motions x y) ≡ motion_where ((values_in p (folded_at f k)).motion x y)
  unfolding values_in
  flight_beside x y =
      subst
      (λ (d : DecodedUnits). motion_of (d.motions x y)
      ≡ motion_where (unwrap_or (motion_of (d.motions x y)) no_vectors))
      (sym (folded_is f range k p has))
      (sym (where_is (motion_of ((known_folded (pictures_before f k) p).motions x y))
      ((units_fit p (range.plans k p has) (pictures_before f k) (before_held f range k)).motions x y)))
