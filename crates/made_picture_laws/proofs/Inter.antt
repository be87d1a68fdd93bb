-- P and B pictures have one motion everywhere, samples by it, and no strength.
use Rattle.std.proofs.Common.{◌≡◌, ◌⊎◌, inl, inr, ℕ, zero, suc, ◌+◌, ◌-◌, ◌*◌, ◌/◌, ◌%◌, ◌<◌, ◌≤◌, cond, Bool, true}
use Rattle.std.proofs.Common.{false, ◌&&◌, nat_le, nat_lt, List, Option, Some, None, refl, sym, ap, subst, ◌∙◌}
use Rattle.std.proofs.Common.{arith}
use Rattle.std.specs.Prelude.{◌==◌, slice_index_or}
use Rattle.std.specs.Option.{unwrap_or}
use Rattle.std.proofs.lemmas.Bool.{cases_eq, cases_lt, le-leb, lt-ltb}
use Rattle.std.proofs.lemmas.Bool.Decides.{nat_tests}
use Rattle.header_types.specs.declared.sps.PictureFormat.{PictureFormat}
use Rattle.plan_types.specs.declared.picture_plan.PicturePlan.{PicturePlan}
use Rattle.plan_types.specs.declared.segment_plan.SegmentPlan.{SegmentPlan}
use Rattle.plan_types.specs.Segments.{address_of}
use Rattle.ctu_records.specs.declared.item.Item.{Item}
use Rattle.ctu_records.specs.declared.offset.ComponentOffset.TheVariants.{Off}
use Rattle.picture_buffer.specs.declared.place_motion.PlaceMotion.{PlaceMotion}
use Rattle.spec_boundary_strengths.specs.Places.{unit_place}
use Rattle.spec_boundary_strengths.specs.Strengths.{Beside, coded_at, left_strength, top_strength}
use Rattle.spec_deblocking.specs.declared.place.Place.{Place}
use Rattle.spec_loop_filters.proofs.Unchanged.{final_same}
use Rattle.spec_motion.specs.declared.slice_motion.SliceMotion.{SliceMotion}
use Rattle.spec_motion.specs.declared.vectors.Motion.{Motion as UnitMotion}
use Rattle.spec_motion.specs.declared.vectors.Reference.{Reference}
use Rattle.spec_motion.specs.Units.{unit_derived}
use Rattle.spec_motion.specs.Vectors.{Beneath, Known as KnownMotion, reference_in}
use Rattle.spec_sample_adaptive_offset.specs.declared.unit.OffsetUnit.{OffsetUnit}
use Rattle.spec_slice_data.specs.Residual.{samples_of_place}
use Rattle.spec_slice_data.specs.Segment.{PictureShape}
use Rattle.spec_picture_trees.specs.Places.{first_column, first_row, is_of_unit, is_there}
use Rattle.spec_picture_trees.specs.Shapes.{picture_shape, slice_start}
use Rattle.spec_picture_motion.specs.Derived.{collocated_motions, known_of_unit, unit_added}
use Rattle.spec_picture_motion.specs.Field.{Motions, beneath_unit, known_beside, motion_of, pointing_motion}
use Rattle.spec_picture_motion.specs.Field.{unit_laid as motion_laid}
use Rattle.spec_picture_motion.specs.Slices.{collocated_entry, slice_motion}
use Rattle.spec_picture_filters.specs.Data.{no_data}
use Rattle.spec_picture_filters.specs.Filtered.{filtered, loop_filters}
use Rattle.spec_picture_filters.specs.Units.{beside_unit as filters_beside, coded_laid, coded_near, motion_near}
use Rattle.spec_picture_filters.specs.Units.{is_left_filtered, is_reached, is_top_filtered, place_of, places_laid}
use Rattle.spec_picture_filters.specs.Units.{places_read}
use Rattle.spec_picture_filters.specs.Units.{read_added, units_laid}
use Rattle.spec_inter_prediction.specs.declared.tables.SliceWeighting.TheVariants.{Default}
use Rattle.spec_reconstruction.specs.Inter.{InterUnit, inter_sample}
use Rattle.spec_reconstruction.specs.Known.{Known}
use Rattle.spec_reconstruction.specs.Unit.{unit_built}
use Rattle.spec_picture_build.specs.Border.{Samples, has_sample, known_beside as samples_beside}
use Rattle.spec_picture_build.specs.Built.{samples_added, unit_inter, unit_laid}
use Rattle.spec_picture_build.specs.Format.{unit_format}
use Rattle.spec_picture_build.specs.References.{DecodedPicture, motions_of, pictures_of}
use Rattle.spec_decoded_pictures.specs.Decoded.{DecodedUnits, decoded_by, no_units, samples_filtered, unit_decoded}
use Rattle.spec_decoded_pictures.specs.Decoded.{units_decoded, units_folded}
use Rattle.spec_made.specs.declared.units.InterUnit.{InterUnit as MadeUnit}
use Rattle.spec_made.specs.declared.units.Motion.{Motion}
use Rattle.spec_made.specs.declared.units.Shift.{Shift}
use Rattle.spec_made.specs.Draws.{no_unit}
use Rattle.spec_made.specs.InterRows.{is_skipped, later_motion}
use Rattle.spec_made.specs.Planes.{Planes}
use Rattle.made_laws.specs.Sets.{made_format}
use Rattle.made_row_laws.specs.Rows.{IsReadAs, tree_drawn, trees_drawn}
use Rattle.made_row_laws.specs.Shapes.{made_shape}
use Rattle.made_row_laws.specs.Units.{IsMotion, inter_items, unit_drawn, unit_items}
use Rattle.made_sample_laws.specs.Units.{side_of}
use Rattle.made_picture_laws.specs.Inter.{IsInter}
use Rattle.made_picture_laws.specs.Motion.{motion_drawn, place_drawn}
use Rattle.made_picture_laws.specs.Pictures.{IsDecodedAs, drawn_at, height_of, width_of}
use Rattle.made_picture_laws.proofs.Folding.{all_units}
use Rattle.made_picture_laws.proofs.Idr.{decoded_is, has_it, side_mod, unit_inside}
use Rattle.made_picture_laws.proofs.Laying.{laid_elsewhere, laid_here, place_elsewhere, place_here, unit_of}
use Rattle.made_picture_laws.proofs.Laying.{unit_of_place}
use Rattle.made_picture_laws.proofs.Places.{IsPlaceOf, IsPlaceOrNone, beside_none, beside_unit}
use Rattle.made_picture_laws.proofs.Places.{place_of_unit}
use Rattle.made_picture_laws.proofs.Strengths.{left_edge, left_inside, top_edge, top_inside}
use Rattle.made_picture_laws.proofs.Tests.{both, other_test, when_false, when_true}
use Rattle.made_picture_laws.proofs.Units.{first_derived, inter_built, later_derived, uncoded}

-- a case of what is laid
either : {X : Type 0} (P : X → Type 0) (b : Bool) (v w : X) → (b ≡ true → P v) → (b ≡ false → P w) → P (cond b v w)
either P true v w f g = f refl
either P false v w f g = g refl

no_offset : (a b : Bool) → cond a Off (cond b Off Off) ≡ Off
no_offset true b = refl
no_offset false true = refl
no_offset false false = refl

bool_cases : (b : Bool) → (b ≡ true) ⊎ (b ≡ false)
bool_cases true = inl refl
bool_cases false = inr refl

-- a motion with the pictures that it refers to, and without them again
told_again : (first : ℕ → Reference) (one : Shift) (second : Option Shift)
    → motion_of (Some (place_drawn first (record { first = one; second = second })))
    ≡ Some (motion_drawn (record { first = one; second = second }))
told_again first one None = refl
told_again first one (Some two) = refl

pointed : (slice : SliceMotion) (first : ℕ → Reference) (one : Shift) (second : Option Shift)
    → ((list : ℕ) → reference_in slice list 0 ≡ first list)
    → pointing_motion slice (Some (motion_drawn (record { first = one; second = second })))
    ≡ Some (place_drawn first (record { first = one; second = second }))
pointed slice first one None refers = rw (refers 0) refl
pointed slice first one (Some two) refers = rw (refers 0, refers 1) refl

module _ (buffer : List DecodedPicture) (p : PicturePlan) (s : SegmentPlan) (first : ℕ → Reference)
    (is : IsInter p s first) (m : Motion) (small : IsMotion m) (units : List MadeUnit)
    (coded : is_skipped (slice_index_or units 0 no_unit) 0 ≡ false) (sample : Samples)
    (predicted : (inter : InterUnit) (c x y : ℕ) → inter.pictures ≡ pictures_of made_format buffer
    → inter.weighting ≡ Default
    → ((list : ℕ) → reference_in inter.slice list 0 ≡ first list) → c < 3 → x < width_of c → y < height_of c
    → inter_sample (unit_format p.sps p.pps s.header.slice) inter c (motion_drawn m) x y ≡ sample c x y) where
  abbrev items : ℕ → List Item
  items = inter_items m units

  abbrev motion : UnitMotion
  motion = motion_drawn m

  abbrev pm : PlaceMotion
  pm = place_drawn first m

  abbrev shape : PictureShape
  shape = picture_shape p.sps p.pps

  told : motion_of (Some pm) ≡ Some motion
  told = told_again first m.first m.second

  abbrev behind : ℕ → DecodedUnits → DecodedUnits
  behind i u = unit_decoded buffer p s (tree_drawn items i) u

  record Holds (n : ℕ) (u : DecodedUnits) : Type 0 where
    pub samples : (c x y : ℕ) → c < 3 → x < width_of c → y < height_of c → unit_of c x y < n
        → u.samples c x y ≡ sample c x y
    pub motions : (x y : ℕ) → x < 32 → y < 24 → unit_of_place x y < n → u.motions x y ≡ Some pm
    pub each : (x y : ℕ) → IsPlaceOrNone pm (u.motions x y)
    pub start : n ≡ 0 → (x y : ℕ) → u.motions x y ≡ None
    pub uncoded : (x y : ℕ) → u.filters.coded x y ≡ false
    pub left : (x y : ℕ) → (u.filters.places x y).left_strength ≡ 0
    pub top : (x y : ℕ) → (u.filters.places x y).top_strength ≡ 0
    pub offsets : (c column row : ℕ) → (u.filters.units c column row).offset ≡ Off

  -- ---- motion

  abbrev beneath : ℕ → Beneath
  beneath i =
      beneath_unit shape i
      (collocated_motions (motions_of buffer) (collocated_entry s.header.slice (slice_start p s).lists))

  same_known : (i : ℕ) (motions : Motions)
      → known_beside shape (address_of (slice_start p s)) i motions ≡ known_beside made_shape 0 i motions
  same_known i motions =
      ap (λ (k : PictureShape). known_beside k (address_of (slice_start p s)) i motions) is.shape
      ∙ ap (λ a. known_beside made_shape a i motions) is.address

  derived_at : (i : ℕ) (u : DecodedUnits) (column row : ℕ) → i < 48 → Holds i u → 1 ≤ column → column ≤ 4 → 1 ≤ row
      → row ≤ 4
      → unit_derived (slice_motion p s i) (beneath i) (items i) (known_beside made_shape 0 i u.motions) column row
      ≡ Some motion
  unfolding inter_items
  derived_at zero u column row inside h left right above below =
      first_derived (slice_motion p s 0) (beneath 0) (is.plain 0) m small (slice_index_or units 0 no_unit)
      (known_beside made_shape 0 0 u.motions) column row coded (beside_none motion pm told u.motions 0 0 (h.start refl))
      left right above below
  derived_at (suc i) u column row inside h left right above below =
      ap (λ b. unit_derived (slice_motion p s (suc i)) (beneath (suc i))
      (unit_items (cond b m (later_motion m)) (later_motion m) (slice_index_or units (suc i) no_unit))
      (known_beside made_shape 0 (suc i) u.motions) column row) (other_test (suc i) 0 (λ none. absurd (omega arith)))
      ∙ later_derived (slice_motion p s (suc i)) (beneath (suc i)) (is.plain (suc i)) m small
      (slice_index_or units (suc i) no_unit) (known_beside made_shape 0 (suc i) u.motions) column row
      (beside_unit motion pm told u.motions (suc i) (omega arith) inside h.each h.motions) left right above below

  known_is : (i : ℕ) (u : DecodedUnits) (column row : ℕ) → i < 48 → Holds i u → 1 ≤ column → column ≤ 4 → 1 ≤ row
      → row ≤ 4
      → known_of_unit (motions_of buffer) p s (tree_drawn items i) u.motions column row ≡ Some motion
  unfolding known_of_unit unit_drawn
  known_is i u column row inside h left right above below =
      ap (λ (k : KnownMotion). unit_derived (slice_motion p s i) (beneath i) (items i) k column row)
      (same_known i u.motions)
      ∙ derived_at i u column row inside h left right above below

  abbrev known : ℕ → DecodedUnits → KnownMotion
  known i u = known_of_unit (motions_of buffer) p s (tree_drawn items i) u.motions

  motions_here : (i : ℕ) (u : DecodedUnits) (x y : ℕ) → i < 48 → Holds i u → is_of_unit made_shape i x y ≡ true
      → (behind i u).motions x y ≡ Some pm
  unfolding unit_decoded unit_added motion_laid
  motions_here i u x y inside h held =
      let at = place_of_unit i x y held in
      ap (λ (k : PictureShape). motion_laid k i (slice_motion p s i) (known i u) u.motions x y) is.shape
      ∙ when_true _ _ _ _ held
      (ap (pointing_motion (slice_motion p s i))
      (known_is i u (x - 4 * (i % 8) + 1) (y - 4 * (i / 8) + 1) inside h (omega arith) (omega (arith, at.right))
      (omega arith) (omega (arith, at.below)))
      ∙ pointed (slice_motion p s i) first m.first m.second (λ list. is.references list i))

  motions_else : (i : ℕ) (u : DecodedUnits) (x y : ℕ) → is_of_unit made_shape i x y ≡ false
      → (behind i u).motions x y ≡ u.motions x y
  unfolding unit_decoded unit_added motion_laid
  motions_else i u x y held =
      ap (λ (k : PictureShape). motion_laid k i (slice_motion p s i) (known i u) u.motions x y) is.shape
      ∙ when_false _ _ _ _ held refl

  motions_step : (i : ℕ) (u : DecodedUnits) → i < 48 → Holds i u → (x y : ℕ) → x < 32 → y < 24
      → unit_of_place x y < i + 1 → (behind i u).motions x y ≡ Some pm
  motions_step i u inside h x y few low before =
      elim (cases_eq (unit_of_place x y) i) [
        | inl at ↦ motions_here i u x y inside h (place_here i x y few low at)
        | inr apart ↦
            motions_else i u x y (place_elsewhere i x y few inside apart)
            ∙ h.motions x y few low (omega arith)
      ]

  each_step : (i : ℕ) (u : DecodedUnits) → i < 48 → Holds i u → (x y : ℕ) → IsPlaceOrNone pm ((behind i u).motions x y)
  each_step i u inside h x y =
      elim (bool_cases (is_of_unit made_shape i x y)) [
        | inl held ↦ inr (motions_here i u x y inside h held)
        | inr held ↦ subst (IsPlaceOrNone pm) (sym (motions_else i u x y held)) (h.each x y)
      ]

  -- ---- samples

  abbrev inter : ℕ → DecodedUnits → InterUnit
  inter i u = unit_inter buffer p s (tree_drawn items i) u.motions

  column_is : (c x y i : ℕ) → c < 3 → x < width_of c → unit_of c x y ≡ i
      → samples_of_place c * (4 * (i % 8)) + (x % side_of c + 1 - 1) ≡ x
  column_is zero x y i least few at = omega arith
  column_is (suc zero) x y i least few at = omega arith
  column_is (suc (suc zero)) x y i least few at = omega arith
  column_is (suc (suc (suc c))) x y i least few at = absurd (omega arith)

  line_is : (c x y i : ℕ) → c < 3 → x < width_of c → unit_of c x y ≡ i
      → samples_of_place c * (4 * (i / 8)) + (y % side_of c + 1 - 1) ≡ y
  line_is zero x y i least few at = omega arith
  line_is (suc zero) x y i least few at = omega arith
  line_is (suc (suc zero)) x y i least few at = omega arith
  line_is (suc (suc (suc c))) x y i least few at = absurd (omega arith)

  value_is : (i : ℕ) (u : DecodedUnits) (c x y : ℕ) → c < 3 → x < width_of c → y < height_of c → unit_of c x y ≡ i
      → inter_sample (unit_format p.sps p.pps s.header.slice) (inter i u) c motion
      (samples_of_place c * (inter i u).column + (x % side_of c + 1 - 1))
      (samples_of_place c * (inter i u).row + (y % side_of c + 1 - 1))
      ≡ sample c x y
  unfolding unit_inter
  value_is i u c x y least few low at =
      ap (λ (k : PictureShape). inter_sample (unit_format p.sps p.pps s.header.slice) (inter i u) c motion
      (samples_of_place c * first_column k i + (x % side_of c + 1 - 1))
      (samples_of_place c * first_row k i + (y % side_of c + 1 - 1))) is.shape
      ∙ ap (λ k. inter_sample (unit_format p.sps p.pps s.header.slice) (inter i u) c motion k
      (samples_of_place c * (4 * (i / 8)) + (y % side_of c + 1 - 1))) (column_is c x y i least few at)
      ∙ ap (λ k. inter_sample (unit_format p.sps p.pps s.header.slice) (inter i u) c motion x k)
      (line_is c x y i least few at)
      ∙ predicted (inter i u) c x y (ap (λ (f : PictureFormat). pictures_of f buffer) is.format) is.weighting
      (λ list. is.references list i) least few low

  abbrev built_known : ℕ → DecodedUnits → Known
  built_known i u =
      unit_built (unit_format p.sps p.pps s.header.slice) (inter i u) (items i)
      (samples_beside shape (address_of (slice_start p s)) i u.samples)

  samples_step : (i : ℕ) (u : DecodedUnits) → i < 48 → Holds i u → (c x y : ℕ) → c < 3 → x < width_of c
      → y < height_of c → unit_of c x y < i + 1 → (behind i u).samples c x y ≡ sample c x y
  unfolding unit_decoded samples_added unit_drawn inter_items unit_inter
  samples_step i u inside h c x y least few low before =
      ap (λ (k : PictureShape). unit_laid k i (built_known i u) u.samples c x y) is.shape
      ∙ elim (cases_eq (unit_of c x y) i) [
        | inl at ↦
            laid_here i c x y (built_known i u) u.samples least few low at
            ∙ ap (λ o. unwrap_or o 0)
            (inter_built (unit_format p.sps p.pps s.header.slice) (inter i u) motion
            (λ column row left right above below. known_is i u column row inside h left right above below)
            (cond (i == 0) m (later_motion m)) (later_motion m) (slice_index_or units i no_unit)
            (samples_beside shape (address_of (slice_start p s)) i u.samples) c (x % side_of c) (y % side_of c) least
            (side_mod c x) (side_mod c
            y))
            ∙ value_is i u c x y least few low at
        | inr apart ↦
            laid_elsewhere i c x y (built_known i u) u.samples least apart ∙ h.samples c x y least few low (omega arith)
      ]

  -- ---- filters

  abbrev near : ℕ → DecodedUnits → Beside
  near i u = filters_beside p s i (behind i u).motions u.filters.coded

  near_at : (i : ℕ) (u : DecodedUnits) (column row : ℕ) → i < 48 → Holds i u → 1 ≤ 4 * (i % 8) + column
      → 1 ≤ 4 * (i / 8) + row
      → 4 * (i % 8) + column - 1 < 32 → 4 * (i / 8) + row - 1 < 24
      → unit_of_place (4 * (i % 8) + column - 1) (4 * (i / 8) + row - 1) < i + 1
      → (near i u).motion column row ≡ Some pm
  unfolding filters_beside motion_near
  near_at i u column row inside h left above few low before =
      ap (λ (k : PictureShape). motion_near k i (behind i u).motions column row) is.shape
      ∙ when_true _ _ _ _
      (both _ _ (both _ _ (le-leb 1 (4 * (i % 8) + column) left) (le-leb 1 (4 * (i / 8) + row) above))
      (both _ _ (lt-ltb (4 * (i % 8) + column - 1) 32 few) (lt-ltb (4 * (i / 8) + row - 1) 24 low)))
      (motions_step i u inside h (4 * (i % 8) + column - 1) (4 * (i / 8) + row - 1) few low before)

  near_uncoded : (i : ℕ) (u : DecodedUnits) → Holds i u → (column row : ℕ) → (near i u).coded column row ≡ false
  unfolding filters_beside coded_near
  near_uncoded i u h column row =
      either (λ b. b ≡ false) (is_there shape i column row)
      (u.filters.coded (first_column shape i + column - 1) (first_row shape i + row - 1)) false
      (λ held. h.uncoded (first_column shape i + column - 1) (first_row shape i + row - 1)) (λ held. refl)

  items_uncoded : (i x y : ℕ) → coded_at (items i) x y ≡ false
  unfolding inter_items
  items_uncoded i x y =
      uncoded (cond (i == 0) m (later_motion m)) (later_motion m) (slice_index_or units i no_unit) x y

  left_not : (i : ℕ) (u : DecodedUnits) → i % 8 ≡ 0 → (near i u).left ≡ false
  unfolding filters_beside is_left_filtered
  left_not i u e =
      let none : nat_lt 0 (i % 8) ≡ false = rw e refl in
      ap (λ (k : PictureShape). nat_lt 0 (i % k.width) && is_reached p s (i - 1)) is.shape
      ∙ ap (λ b. b && is_reached p s (i - 1)) none

  top_not : (i : ℕ) (u : DecodedUnits) → i / 8 ≡ 0 → (near i u).top ≡ false
  unfolding filters_beside is_top_filtered
  top_not i u e =
      let few : i < 8 = omega arith in
      let none : nat_le 8 i ≡ false = grind (arith, nat_tests) in
      ap (λ (k : PictureShape). nat_le k.width i && is_reached p s (i - k.width)) is.shape
      ∙ ap (λ b. b && is_reached p s (i - 8)) none

  left_zero : (i : ℕ) (u : DecodedUnits) (x y : ℕ) → i < 48 → Holds i u → IsPlaceOf i x y
      → left_strength (near i u) (items i) (x - 4 * (i % 8)) (y - 4 * (i / 8)) ≡ 0
  left_zero i u x y inside h at =
      elim (cases_lt 0 x) [
        | inl behind_first ↦
            left_inside (near i u) (items i) pm (near_uncoded i u h) (items_uncoded i) (x - 4 * (i % 8))
            (y - 4 * (i / 8))
            (near_at i u (x - 4 * (i % 8)) (y - 4 * (i / 8) + 1) inside h (omega (arith, at.left)) (omega arith)
            (omega (arith, at.column)) (omega (arith, at.row, at.above))
            (omega (arith, at.left, at.right, at.above, at.below)))
            (near_at i u (x - 4 * (i % 8) + 1) (y - 4 * (i / 8) + 1) inside h (omega arith) (omega arith)
            (omega (arith, at.left, at.column)) (omega (arith, at.row, at.above))
            (omega (arith, at.left, at.right, at.above, at.below)))
        | inr begins ↦
            left_edge (near i u) (items i) pm (near_uncoded i u h) (items_uncoded i) (x - 4 * (i % 8))
            (y - 4 * (i / 8)) (left_not i u (omega (arith, at.left))) (omega arith)
      ]

  top_zero : (i : ℕ) (u : DecodedUnits) (x y : ℕ) → i < 48 → Holds i u → IsPlaceOf i x y
      → top_strength (near i u) (items i) (x - 4 * (i % 8)) (y - 4 * (i / 8)) ≡ 0
  top_zero i u x y inside h at =
      elim (cases_lt 0 y) [
        | inl behind_first ↦
            top_inside (near i u) (items i) pm (near_uncoded i u h) (items_uncoded i) (x - 4 * (i % 8))
            (y - 4 * (i / 8))
            (near_at i u (x - 4 * (i % 8) + 1) (y - 4 * (i / 8)) inside h (omega arith) (omega (arith, at.above))
            (omega (arith, at.left, at.column)) (omega (arith, at.row))
            (omega (arith, at.left, at.right, at.above, at.below)))
            (near_at i u (x - 4 * (i % 8) + 1) (y - 4 * (i / 8) + 1) inside h (omega arith) (omega arith)
            (omega (arith, at.left, at.column)) (omega (arith, at.row, at.above))
            (omega (arith, at.left, at.right, at.above, at.below)))
        | inr begins ↦
            top_edge (near i u) (items i) pm (near_uncoded i u h) (items_uncoded i) (x - 4 * (i % 8))
            (y - 4 * (i / 8)) (top_not i u (omega (arith, at.above))) (omega arith)
      ]

  left_step : (i : ℕ) (u : DecodedUnits) → i < 48 → Holds i u → (x y : ℕ)
      → ((behind i u).filters.places x y).left_strength ≡ 0
  unfolding unit_decoded read_added places_laid place_of places_read unit_place unit_drawn
  left_step i u inside h x y =
      ap (λ (k : PictureShape). (places_laid k i s.header.slice.deblocking
      (places_read p s i (items i) (behind i u).motions u.filters.coded) u.filters.places x y).left_strength) is.shape
      ∙ either (λ (q : Place). q.left_strength ≡ 0) (is_of_unit made_shape i x y) _ (u.filters.places x y)
      (λ held. left_zero i u x y inside h (place_of_unit i x y held)) (λ held. h.left x y)

  top_step : (i : ℕ) (u : DecodedUnits) → i < 48 → Holds i u → (x y : ℕ)
      → ((behind i u).filters.places x y).top_strength ≡ 0
  unfolding unit_decoded read_added places_laid place_of places_read unit_place unit_drawn
  top_step i u inside h x y =
      ap (λ (k : PictureShape). (places_laid k i s.header.slice.deblocking
      (places_read p s i (items i) (behind i u).motions u.filters.coded) u.filters.places x y).top_strength) is.shape
      ∙ either (λ (q : Place). q.top_strength ≡ 0) (is_of_unit made_shape i x y) _ (u.filters.places x y)
      (λ held. top_zero i u x y inside h (place_of_unit i x y held)) (λ held. h.top x y)

  uncoded_step : (i : ℕ) (u : DecodedUnits) → Holds i u → (x y : ℕ) → (behind i u).filters.coded x y ≡ false
  unfolding unit_decoded read_added coded_laid places_read unit_place unit_drawn
  uncoded_step i u h x y =
      either (λ b. b ≡ false) (is_of_unit shape i x y)
      (coded_at (items i) (x - first_column shape i) (y - first_row shape i)) (u.filters.coded x y)
      (λ held. items_uncoded i (x - first_column shape i) (y - first_row shape i)) (λ held. h.uncoded x y)

  offsets_step : (i : ℕ) (u : DecodedUnits) → Holds i u → (c column row : ℕ)
      → ((behind i u).filters.units c column row).offset ≡ Off
  unfolding unit_decoded read_added units_laid unit_drawn
  offsets_step i u h c column row =
      either (λ (q : OffsetUnit). q.offset ≡ Off) _ _ (u.filters.units c column row)
      (λ held. no_offset (c == 0) (c == 1)) (λ held. h.offsets c column row)

  step : (i : ℕ) (u : DecodedUnits) → i < 48 → Holds i u → Holds (i + 1) (behind i u)
  step i u inside h = record {
    samples = samples_step i u inside h;
    motions = motions_step i u inside h;
    each = each_step i u inside h;
    start = λ none. absurd (omega arith);
    uncoded = uncoded_step i u h;
    left = left_step i u inside h;
    top = top_step i u inside h;
    offsets = offsets_step i u h;
  }

  begin : Holds 0 no_units
  unfolding no_data
  begin = record {
    samples = λ c x y least few low before. absurd (omega arith);
    motions = λ x y few low before. absurd (omega arith);
    each = λ x y. inl refl;
    start = λ none x y. refl;
    uncoded = λ x y. refl;
    left = λ x y. refl;
    top = λ x y. refl;
    offsets = λ c column row. refl;
  }

  all_hold : Holds 48 (units_folded buffer p (trees_drawn items))
  all_hold = all_units buffer p s items is.only Holds step begin

  filtered_is : (c x y : ℕ) → c < 3 → x < width_of c → y < height_of c
      → samples_filtered p (units_folded buffer p (trees_drawn items)).filters
      (units_folded buffer p (trees_drawn items)).samples c x y
      ≡ sample c x y
  unfolding samples_filtered filtered
  filtered_is c x y least few low =
      let u : DecodedUnits = units_folded buffer p (trees_drawn items) in
      let all = all_hold in
      when_true _ _ _ _
      (ap (λ (k : PictureShape). has_sample k c x y) is.shape ∙ has_it c x y least few low)
      (final_same (loop_filters p u.filters) u.samples c x y all.left all.top (λ a b. all.offsets c a b)
      ∙ all.samples c x y least few low (unit_inside c x y least few low))

  -- a picture that is read as these units is decoded as these samples
  pub inter_decoded : (planes : Planes) → IsReadAs p items
      → ((c x y : ℕ) → c < 3 → x < width_of c → y < height_of c → sample c x y ≡ drawn_at planes c x y)
      → IsDecodedAs buffer p planes
  unfolding decoded_by
  inter_decoded planes read same = record {
    picture = units_decoded buffer p (trees_drawn items);
    decoded = decoded_is buffer p items read;
    drawn = record {
      format = is.format;
      samples = λ c x y least few low. filtered_is c x y least few low ∙ same c x y least few low;
    };
  }
