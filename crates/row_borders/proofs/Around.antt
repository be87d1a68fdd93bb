-- What a unit gives the loop filters, by motion and coded places that agree directly beside it.
use Rattle.std.proofs.Common.{◌≡◌, ℕ, zero, suc, ◌+◌, ◌-◌, ◌<◌, ◌≤◌, ◌&&◌, nat_le, nat_lt, Bool}
use Rattle.std.proofs.Common.{true, false, Option, None, List, refl, sym, ap, ◌∙◌, if◌then◌else◌, arith}
use Rattle.std.proofs.lemmas.Bool.{and_from, and_parts, leb-true}
use Rattle.std.proofs.lemmas.Bool.Decides.{nat_tests}
use Rattle.ctu_records.specs.declared.item.Item.{Item}
use Rattle.picture_buffer.specs.declared.place_motion.PlaceMotion.{PlaceMotion}
use Rattle.plan_types.specs.declared.picture_plan.PicturePlan.{PicturePlan}
use Rattle.plan_types.specs.declared.segment_plan.SegmentPlan.{SegmentPlan}
use Rattle.spec_motion.specs.declared.slice_motion.SliceMotion.{SliceMotion}
use Rattle.spec_motion.specs.Vectors.{Known}
use Rattle.spec_picture_filters.specs.Units.{beside_unit, coded_near, motion_near, pcm_disabled, places_read}
use Rattle.spec_picture_motion.specs.Field.{Motions, unit_laid}
use Rattle.spec_picture_trees.specs.Places.{first_column, first_row, has_place, is_of_unit, is_there, unit_places}
use Rattle.spec_picture_trees.specs.Shapes.{picture_shape, qp_bd_offset}
use Rattle.spec_slice_data.specs.Segment.{PictureShape}
use Rattle.known_picture_laws.specs.LocalityLaws.{is_at_border}
use Rattle.known_picture_laws.proofs.LocalityLaws.{column_at, line_at}
use Rattle.known_picture_laws.proofs.LocalityLaws.{some_places}
use Rattle.known_picture_laws.proofs.Strengths.{AgreeAt, place_same}

same_if : {A : Type 0} (b : Bool) (x y o : A) → (b ≡ true → x ≡ y) → (if b then x else o) ≡ (if b then y else o)
same_if true x y o e = e refl
same_if false x y o e = refl

laid_if : {A : Type 0} (b : Bool) (x f g : A) → (b ≡ false → f ≡ g) → (if b then x else f) ≡ (if b then x else g)
laid_if true x f g e = refl
laid_if false x f g e = e refl

-- motion and coded places agree at the places of the picture directly beside a unit
pub record AgreeBeside (picture : PictureShape) (a : ℕ) (f g : Motions) (c d : ℕ → ℕ → Bool) : Type 0 where
  pub motions : (x y : ℕ) → has_place picture x y ≡ true
      → is_at_border (unit_places picture) (first_column picture a) (first_row picture a) x y ≡ true → f x y ≡ g x y
  pub left : (k : ℕ) → 1 ≤ first_column picture a → k < unit_places picture
      → has_place picture (first_column picture a - 1) (first_row picture a + k) ≡ true
      → c (first_column picture a - 1) (first_row picture a + k)
      ≡ d (first_column picture a - 1) (first_row picture a + k)
  pub above : (k : ℕ) → 1 ≤ first_row picture a → k < unit_places picture
      → has_place picture (first_column picture a + k) (first_row picture a - 1) ≡ true
      → c (first_column picture a + k) (first_row picture a - 1)
      ≡ d (first_column picture a + k) (first_row picture a - 1)

module _ (picture : PictureShape) (a : ℕ) (f g : Motions) (c d : ℕ → ℕ → Bool) (slice : SliceMotion) (known : Known)
    (agree : AgreeBeside picture a f g c d) where
  abbrev n : ℕ
  n = unit_places picture

  abbrev X : ℕ
  X = first_column picture a

  abbrev Y : ℕ
  Y = first_row picture a

  -- the motion behind the unit
  abbrev laid : Motions → Motions
  laid m = unit_laid picture a slice known m

  laid_at : (x y : ℕ) → (is_of_unit picture a x y ≡ false → f x y ≡ g x y) → laid f x y ≡ laid g x y
  unfolding unit_laid
  laid_at x y e = laid_if {A = Option PlaceMotion} (is_of_unit picture a x y) _ _ _ e

  own_place : (i j : ℕ) → i < n → j < n → has_place picture (X + suc i - 1) (Y + suc j - 1) ≡ true
      → is_of_unit picture a (X + suc i - 1) (Y + suc j - 1) ≡ true
  own_place i j across down there =
      let columns : (nat_le X (X + suc i - 1) && nat_lt (X + suc i - 1) (X + n)) ≡ true = grind (arith, nat_tests) in
      let rows : (nat_le Y (Y + suc j - 1) && nat_lt (Y + suc j - 1) (Y + n)) ≡ true = grind (arith, nat_tests) in
      and_from _ _ there (and_from _ _ columns rows)

  -- the motion of each place that is asked for
  motion_at : (column row : ℕ) → column ≤ n → row ≤ n → 1 ≤ column + row → is_there picture a column row ≡ true
      → laid f (X + column - 1) (Y + row - 1) ≡ laid g (X + column - 1) (Y + row - 1)
  motion_at zero zero across down some there = absurd (omega (arith, some))
  motion_at zero (suc k) across down some there =
      let tests = and_parts _ (has_place picture (X + 0 - 1) (Y + suc k - 1)) there in
      let inside = and_parts (nat_le 1 (X + 0)) _ tests.0 in
      let right : 1 ≤ X + 0 = leb-true _ _ inside.0 in
      laid_at (X + 0 - 1) (Y + suc k - 1) (λ e. agree.motions (X + 0 - 1) (Y + suc k - 1) tests.1
      (column_at n X Y k (omega (arith, right)) (omega (arith, down))))
  motion_at (suc k) zero across down some there =
      let tests = and_parts _ (has_place picture (X + suc k - 1) (Y + 0 - 1)) there in
      let inside = and_parts (nat_le 1 (X + suc k)) _ tests.0 in
      let low : 1 ≤ Y + 0 = leb-true _ _ inside.1 in
      laid_at (X + suc k - 1) (Y + 0 - 1) (λ e. agree.motions (X + suc k - 1) (Y + 0 - 1) tests.1
      (line_at n X Y (suc k) (some_places picture) (omega arith) (omega (arith, low)) (omega (arith, across))))
  motion_at (suc i) (suc j) across down some there =
      let tests = and_parts _ (has_place picture (X + suc i - 1) (Y + suc j - 1)) there in
      laid_at (X + suc i - 1) (Y + suc j - 1) (λ e.
      let mine = own_place i j (omega (arith, across)) (omega (arith, down)) tests.1 in absurd cc)

  near : (column row : ℕ) → column ≤ n → row ≤ n → 1 ≤ column + row
      → motion_near picture a (laid f) column row ≡ motion_near picture a (laid g) column row
  unfolding motion_near
  near column row across down some =
      same_if {A = Option PlaceMotion} (is_there picture a column row) _ _ None
      (motion_at column row across down some)

  coded_left : (k : ℕ) → k < n → coded_near picture a c 0 (suc k) ≡ coded_near picture a d 0 (suc k)
  unfolding coded_near
  coded_left k few =
      same_if {A = Bool} (is_there picture a 0 (suc k)) _ _ false (λ there.
      let tests = and_parts _ (has_place picture (X + 0 - 1) (Y + suc k - 1)) there in
      let inside = and_parts (nat_le 1 (X + 0)) _ tests.0 in
      let right : 1 ≤ X + 0 = leb-true _ _ inside.0 in
      let x : X + 0 - 1 ≡ X - 1 = omega arith in
      let y : Y + suc k - 1 ≡ Y + k = omega arith in
      let has : has_place picture (X - 1) (Y + k) ≡ true =
      ap (λ i. has_place picture i (Y + k)) (sym x) ∙ ap (λ j. has_place picture (X + 0 - 1) j) (sym y) ∙ tests.1 in
      ap (λ i. c i (Y + suc k - 1)) x ∙ ap (λ j. c (X - 1) j) y
      ∙ agree.left k (omega (arith, right)) few has
      ∙ sym (ap (λ i. d i (Y + suc k - 1)) x ∙ ap (λ j. d (X - 1) j) y))

  coded_top : (k : ℕ) → k < n → coded_near picture a c (suc k) 0 ≡ coded_near picture a d (suc k) 0
  unfolding coded_near
  coded_top k few =
      same_if {A = Bool} (is_there picture a (suc k) 0) _ _ false (λ there.
      let tests = and_parts _ (has_place picture (X + suc k - 1) (Y + 0 - 1)) there in
      let inside = and_parts (nat_le 1 (X + suc k)) _ tests.0 in
      let low : 1 ≤ Y + 0 = leb-true _ _ inside.1 in
      let x : X + suc k - 1 ≡ X + k = omega arith in
      let y : Y + 0 - 1 ≡ Y - 1 = omega arith in
      let has : has_place picture (X + k) (Y - 1) ≡ true =
      ap (λ i. has_place picture i (Y - 1)) (sym x) ∙ ap (λ j. has_place picture (X + suc k - 1) j) (sym y) ∙ tests.1 in
      ap (λ i. c i (Y + 0 - 1)) x ∙ ap (λ j. c (X + k) j) y
      ∙ agree.above k (omega (arith, low)) few has
      ∙ sym (ap (λ i. d i (Y + 0 - 1)) x ∙ ap (λ j. d (X + k) j) y))

-- what is read of the places of a unit
module _ (p : PicturePlan) (s : SegmentPlan) (a : ℕ) (f g : Motions) (c d : ℕ → ℕ → Bool) (slice : SliceMotion)
    (known : Known) (agree : AgreeBeside (picture_shape p.sps p.pps) a f g c d) where
  abbrev shape : PictureShape
  shape = picture_shape p.sps p.pps

  abbrev over : Motions → Motions
  over m = unit_laid shape a slice known m

  surroundings : (i j : ℕ) → i < unit_places shape → j < unit_places shape
      → AgreeAt (beside_unit p s a (over f) c) (beside_unit p s a (over g) d) i j
  unfolding beside_unit
  surroundings i j across down =
      let next_i : i + 1 ≡ suc i = omega arith in
      let next_j : j + 1 ≡ suc j = omega arith in
      record {
        left = refl;
        top = refl;
        disabled = refl;
        own = near shape a f g c d slice known agree (i + 1) (j + 1) (omega (arith, across)) (omega (arith, down))
            (omega arith);
        on_left = near shape a f g c d slice known agree i (j + 1) (omega (arith, across)) (omega (arith, down))
            (omega arith);
        on_top = near shape a f g c d slice known agree (i + 1) j (omega (arith, across)) (omega (arith, down))
            (omega arith);
        coded_left = λ e.
            ap (λ k. coded_near shape a c k (j + 1)) e
            ∙ ap (λ k. coded_near shape a c 0 k) next_j
            ∙ coded_left shape a f g c d slice known agree j down
            ∙ sym (ap (λ k. coded_near shape a d k (j + 1)) e ∙ ap (λ k. coded_near shape a d 0 k) next_j);
        coded_top = λ e.
            ap (λ k. coded_near shape a c (i + 1) k) e
            ∙ ap (λ k. coded_near shape a c k 0) next_i
            ∙ coded_top shape a f g c d slice known agree i across
            ∙ sym (ap (λ k. coded_near shape a d (i + 1) k) e ∙ ap (λ k. coded_near shape a d k 0) next_i);
      }

  pub read_same : (items : List Item) (i j : ℕ) → i < unit_places shape → j < unit_places shape
      → places_read p s a items (over f) c i j ≡ places_read p s a items (over g) d i j
  unfolding places_read
  read_same items i j across down =
      place_same (beside_unit p s a (over f) c) (beside_unit p s a (over g) d) items i j
      (surroundings i j across down) (pcm_disabled p.sps.tools.pcm) (qp_bd_offset p.sps)
