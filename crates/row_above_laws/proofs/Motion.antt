-- A place of a known unit has motion where one of its prediction units has it.
use Rattle.std.proofs.Common.{◌≡◌, ℕ, ◌+◌, ◌-◌, ◌*◌, ◌<◌, Bool, true, false, ◌&&◌, ◌||◌, not, List, [], ◌∷◌, ◌++◌}
use Rattle.std.proofs.Common.{All, Option, Some, None, is_none, fold, if◌then◌else◌, nat_le, nat_lt, refl, sym, ap}
use Rattle.std.proofs.Common.{subst}
use Rattle.std.proofs.Common.{◌∙◌, arith, inl, inr, slice_get}
use Rattle.std.specs.Prelude.{◌==◌}
use Rattle.std.proofs.lemmas.Bool.{cases_lt, eqb-true, false_from_ne_true, le-leb, le-ltb, lt-leb, lt-ltb}
use Rattle.header_types.specs.SequenceParameterSets.{size_in_ctbs}
use Rattle.plan_types.specs.declared.picture_plan.PicturePlan.{PicturePlan}
use Rattle.plan_types.specs.declared.segment_plan.SegmentPlan.{SegmentPlan}
use Rattle.ctu_records.specs.declared.item.Item.{Item}
use Rattle.ctu_records.specs.declared.item.Item.TheVariants as item
use Rattle.ctu_records.specs.declared.prediction.Rectangle.{Rectangle}
use Rattle.ctu_records.specs.Prediction.{is_inside, part_block}
use Rattle.picture_buffer.specs.declared.place_motion.PlaceMotion.{PlaceMotion}
use Rattle.spec_motion.specs.declared.slice_motion.SliceMotion.{SliceMotion}
use Rattle.spec_motion.specs.declared.vectors.Motion.{Motion}
use Rattle.spec_motion.specs.Derivation.{motion_laid, motion_over, prediction_motion}
use Rattle.spec_motion.specs.Units.{item_derived, unit_derived}
use Rattle.spec_motion.specs.Vectors.{Beneath, Known}
use Rattle.spec_slice_data.specs.Segment.{PictureShape}
use Rattle.spec_picture_trees.specs.Picture.{TreeUnit}
use Rattle.spec_picture_trees.specs.Places.{first_column, first_row, is_of_unit, unit_places}
use Rattle.spec_picture_trees.specs.Shapes.{picture_shape}
use Rattle.spec_known_units.specs.Known.{KnownUnit, known_units, units_known}
use Rattle.spec_picture_motion.specs.Derived.{known_of_unit, unit_added, units_derived}
use Rattle.spec_picture_motion.specs.Field.{Motions, is_border, known_beside, motion_beside, motion_of}
use Rattle.spec_picture_motion.specs.Field.{pointing_motion}
use Rattle.spec_picture_motion.specs.Field.{unit_laid}
use Rattle.spec_picture_motion.specs.Slices.{slice_motion}
use Rattle.unit_laws.specs.SpecPictureBuild.{DecodedPicture, motions_of}
use Rattle.flight_value_laws.specs.SpecDecodedPictures.{DecodedUnits, units_folded}
use Rattle.flight_value_laws.proofs.LocalityLawsLemmas.{motion_is_its_step}
use Rattle.flight_value_laws.specs.KnownPictureLaws.{IsInOrder}
use Rattle.flight_value_laws.proofs.KnownPictureLawsLemmas.{folded_motion}
use Rattle.flight_value_laws.proofs.KnownPictureLawsLemmas.{in_order}
use Rattle.flight_value_laws.specs.SpecFlights.{known_folded}
use Rattle.flight_value_laws.specs.SpecFlights.{given_at}
use Rattle.row_above_laws.proofs.Laying.{is_predicted, predicts}

and_true : (a : Bool) → (a && true) ≡ a
and_true true = refl
and_true false = refl

and_false : (a : Bool) → (a && false) ≡ false
and_false true = refl
and_false false = refl

neither : (a b c : Bool) → ((a && not b) && not c) ≡ (a && not (b || c))
neither true true c = refl
neither true false c = refl
neither false b c = refl

-- ---- a block that is counted from 1

le_up : (a b : ℕ) → nat_le (a + 1) (b + 1) ≡ nat_le a b
le_up a b = elim (cases_lt b a) [
  | inl less ↦ lt-leb (a + 1) (b + 1) (omega (arith, less)) ∙ sym (lt-leb a b less)
  | inr le ↦ le-leb (a + 1) (b + 1) (omega (arith, le)) ∙ sym (le-leb a b le)
]

lt_up : (a b w : ℕ) → nat_lt (a + 1) (b + 1 + w) ≡ nat_lt a (b + w)
lt_up a b w = elim (cases_lt a (b + w)) [
  | inl less ↦ lt-ltb (a + 1) (b + 1 + w) (omega (arith, less)) ∙ sym (lt-ltb a (b + w) less)
  | inr le ↦ le-ltb (a + 1) (b + 1 + w) (omega (arith, le)) ∙ sym (le-ltb a (b + w) le)
]

inside_up : (b : Rectangle) (i j : ℕ)
    → is_inside (record { x = b.x + 1; y = b.y + 1; width = b.width; height = b.height }) (i + 1) (j + 1)
    ≡ is_inside b i j
inside_up b i j = λ t.
    (le_up b.x i t && lt_up i b.x b.width t) && (le_up b.y j t && lt_up j b.y b.height t)

laid_none : (b : Bool) (m : Motion) (o : Option Motion) → is_none (if b then Some m else o) ≡ (is_none o && not b)
laid_none true m o = sym (and_false (is_none o))
laid_none false m o = sym (and_true (is_none o))

module _ (slice : SliceMotion) (beneath : Beneath) (i j : ℕ) where
  item_none : (known : Known) (a : Item)
      → is_none (item_derived slice beneath known a (i + 1) (j + 1))
      ≡ (is_none (known (i + 1) (j + 1)) && not (predicts a i j))
  unfolding motion_laid motion_over
  item_none known (item.Prediction unit) =
      let block : Rectangle = part_block unit.unit unit.part_mode unit.part in
      laid_none
      (is_inside (record { x = block.x + 1; y = block.y + 1; width = block.width; height = block.height }) (i + 1)
      (j + 1)) (prediction_motion slice beneath known unit) (known (i + 1) (j + 1))
      ∙ ap (λ b. is_none (known (i + 1) (j + 1)) && not b) (inside_up block i j)
  item_none known other = sym (and_true (is_none (known (i + 1) (j + 1))))

  derived_none : (items : List Item) (known : Known)
      → is_none (fold (item_derived slice beneath) known items (i + 1) (j + 1))
      ≡ (is_none (known (i + 1) (j + 1)) && not (is_predicted items i j))
  derived_none [] known = sym (and_true (is_none (known (i + 1) (j + 1))))
  derived_none (a ∷ items) known =
      derived_none items (item_derived slice beneath known a)
      ∙ ap (λ b. b && not (is_predicted items i j)) (item_none known a)
      ∙ neither (is_none (known (i + 1) (j + 1))) (predicts a i j) (is_predicted items i j)

-- ---- beside the unit no place is one of its own

not_zero : (k : ℕ) → (k + 1 == 0) ≡ false
not_zero k = false_from_ne_true (k + 1 == 0) (λ e. let none = eqb-true (k + 1) 0 e in omega (arith, none))

no_border : (n i j : ℕ) → is_border n (i + 1) (j + 1) ≡ false
no_border n i j =
    ap (λ b. (b && nat_le (i + 1) (2 * n)) || ((i + 1 == 0) && nat_le (j + 1) n)) (not_zero j)
    ∙ ap (λ b. b && nat_le (j + 1) n) (not_zero i)

none_if : (b : Bool) (o : Option Motion) → b ≡ false → is_none (if b then o else None) ≡ true
none_if true o e = absurd cc
none_if false o e = refl

none_beside : (picture : PictureShape) (slice address : ℕ) (motions : Motions) (i j : ℕ)
    → is_none (known_beside picture slice address motions (i + 1) (j + 1)) ≡ true
unfolding known_beside
none_beside picture slice address motions i j =
    none_if (is_border (unit_places picture) (i + 1) (j + 1))
    (motion_beside picture slice address motions (i + 1) (j + 1)) (no_border (unit_places picture) i j)

pub known_none : (pictures : ℕ → Motions) (p : PicturePlan) (s : SegmentPlan) (unit : TreeUnit) (motions : Motions)
    (i j : ℕ)
    → is_none (known_of_unit pictures p s unit motions (i + 1) (j + 1)) ≡ not (is_predicted unit.read.items i j)
unfolding known_of_unit unit_derived
known_none pictures p s unit motions i j =
    derived_none _ _ i j unit.read.items _
    ∙ ap (λ b. b && not (is_predicted unit.read.items i j)) (none_beside _ _ unit.ctu motions i j)

pointing_none : (slice : SliceMotion) (o : Option Motion) → is_none (motion_of (pointing_motion slice o)) ≡ is_none o
pointing_none slice None = refl
pointing_none slice (Some m) = refl

if_there : {A : Type 0} (b : Bool) (x y : A) → b ≡ true → (if b then x else y) ≡ x
if_there true x y e = refl
if_there false x y e = absurd cc

-- ---- in a picture

module _ (p : PicturePlan) (buffer : List DecodedPicture) (address : ℕ) (known : KnownUnit)
    (inside : address < size_in_ctbs p.sps) (is : units_known p address ≡ Some known) (segment : SegmentPlan)
    (has : slice_get p.segments known.segment ≡ Some segment) where
  abbrev shape : PictureShape
  shape = picture_shape p.sps p.pps

  abbrev unit : TreeUnit
  unit = given_at address known

  abbrev whole : DecodedUnits
  whole = known_folded buffer p

  abbrev Steps : List TreeUnit → Type 0
  Steps units =
      (x y : ℕ) → is_of_unit shape address x y ≡ true
      → (units_folded buffer p units).motions x y
      ≡ unit_added (motions_of buffer) p segment unit (units_folded buffer p units).motions x y

  step_of : (before later : List TreeUnit) → All (λ (u : TreeUnit). address < u.ctu) later
      → Steps (before ++ unit ∷ later)
  step_of before later behind x y mine =
      let units : List TreeUnit = before ++ unit ∷ later in
      let e : (units_folded buffer p units).motions ≡ units_derived (motions_of buffer) p units =
      folded_motion buffer p units in
      subst (λ (m : Motions). m x y ≡ unit_added (motions_of buffer) p segment unit m x y) (sym e)
      (motion_is_its_step (motions_of buffer) p before later unit segment (motions_of buffer)
      (units_derived (motions_of buffer) p units) x y has behind (λ i j border there. refl)
      (λ column row few down. refl) mine)

  step_is : Steps (known_units p)
  step_is =
      let o : IsInOrder (known_units p) (given_at address known) = in_order p address known inside is in
      subst Steps (sym o.is) (step_of o.before o.later o.behind)

  -- a place has no motion exactly where it is in no prediction unit
  pub motion_none : (x y : ℕ) → is_of_unit (picture_shape p.sps p.pps) address x y ≡ true
      → is_none (motion_of ((known_folded buffer p).motions x y))
      ≡ not (is_predicted known.read.items (x - first_column (picture_shape p.sps p.pps) address)
      (y - first_row (picture_shape p.sps p.pps) address))
  unfolding unit_added unit_laid
  motion_none x y mine =
      let slice : SliceMotion = slice_motion p segment address in
      let column : ℕ = x - first_column shape address in
      let row : ℕ = y - first_row shape address in
      let motion : Option Motion =
      known_of_unit (motions_of buffer) p segment unit whole.motions (column + 1) (row + 1) in
      ap (λ o. is_none (motion_of o))
      (step_is x y mine
      ∙ if_there {A = Option PlaceMotion} (is_of_unit shape address x y) (pointing_motion slice motion)
      (whole.motions x y) mine)
      ∙ pointing_none slice motion ∙ known_none (motions_of buffer) p segment unit whole.motions column row
