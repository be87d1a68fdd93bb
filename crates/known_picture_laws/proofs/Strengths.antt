-- What a unit's place is for the loop filters, over two surroundings that agree where the place asks for them.
use Rattle.std.proofs.Common.{◌≡◌, ℕ, ◌+◌, ◌==◌, ◌&&◌, ◌||◌, Bool, true, false, Option, List, refl, sym, ap, ◌∙◌}
use Rattle.std.proofs.Common.{if◌then◌else◌, arith}
use Rattle.std.proofs.lemmas.Bool.Decides.{nat_tests}
use Rattle.ctu_records.specs.declared.item.Item.{Item}
use Rattle.locality_laws.specs.PictureBuffer.{PlaceMotion}
use Rattle.spec_flights.specs.SpecBoundaryStrengths.{UnitPlace}
use Rattle.spec_flights.specs.SpecBoundaryStrengths.{is_prediction_left, is_prediction_top, is_transform_left}
use Rattle.spec_flights.specs.SpecBoundaryStrengths.{is_transform_top}
use Rattle.spec_flights.specs.SpecBoundaryStrengths.{unit_place}
use Rattle.spec_flights.specs.SpecBoundaryStrengths.{Beside, coded_around, is_filtered, left_strength}
use Rattle.spec_flights.specs.SpecBoundaryStrengths.{strength, top_strength}

-- the strength of an edge by what it depends on
unfoldable strength_by : Bool → Bool → ℕ → Bool → Bool → Bool → Bool → Option PlaceMotion → Option PlaceMotion → ℕ
strength_by disabled side line transform prediction p q m n =
    if is_filtered disabled side line && (transform || prediction) then strength (transform && (p || q)) m n else 0

then_same : (t a b o : Bool) → (t ≡ true → a ≡ b) → (if t then a else o) ≡ (if t then b else o)
then_same true a b o e = e refl
then_same false a b o e = refl

-- two surroundings agree for a place, counted from 0
pub record AgreeAt (b c : Beside) (x y : ℕ) : Type 0 where
  pub left : b.left ≡ c.left
  pub top : b.top ≡ c.top
  pub disabled : b.disabled ≡ c.disabled
  pub own : b.motion (x + 1) (y + 1) ≡ c.motion (x + 1) (y + 1)
  pub on_left : b.motion x (y + 1) ≡ c.motion x (y + 1)
  pub on_top : b.motion (x + 1) y ≡ c.motion (x + 1) y
  pub coded_left : x ≡ 0 → b.coded x (y + 1) ≡ c.coded x (y + 1)
  pub coded_top : y ≡ 0 → b.coded (x + 1) y ≡ c.coded (x + 1) y

module _ (b c : Beside) (items : List Item) (x y : ℕ) (same : AgreeAt b c x y) where
  around : (column row : ℕ) → ((column == 0 || row == 0) ≡ true → b.coded column row ≡ c.coded column row)
      → coded_around b items column row ≡ coded_around c items column row
  unfolding coded_around
  around column row e = then_same (column == 0 || row == 0) _ _ _ e

  around_own : coded_around b items (x + 1) (y + 1) ≡ coded_around c items (x + 1) (y + 1)
  around_own = around (x + 1) (y + 1) (λ t. absurd (none t))
    where
      none : (x + 1 == 0 || y + 1 == 0) ≡ true → ⊥
      none t = grind (arith, nat_tests)

  around_left : coded_around b items x (y + 1) ≡ coded_around c items x (y + 1)
  around_left = around x (y + 1) (λ t. same.coded_left (first t))
    where
      first : (x == 0 || y + 1 == 0) ≡ true → x ≡ 0
      first t = grind (arith, nat_tests)

  around_top : coded_around b items (x + 1) y ≡ coded_around c items (x + 1) y
  around_top = around (x + 1) y (λ t. same.coded_top (first t))
    where
      first : (x + 1 == 0 || y == 0) ≡ true → y ≡ 0
      first t = grind (arith, nat_tests)

  abbrev left_by : Beside → ℕ
  left_by d =
      strength_by d.disabled d.left x (is_transform_left items x y) (is_prediction_left items x y)
      (coded_around d items x (y + 1)) (coded_around d items (x + 1) (y + 1)) (d.motion x (y + 1))
      (d.motion (x + 1) (y + 1))

  abbrev top_by : Beside → ℕ
  top_by d =
      strength_by d.disabled d.top y (is_transform_top items x y) (is_prediction_top items x y)
      (coded_around d items (x + 1) y) (coded_around d items (x + 1) (y + 1)) (d.motion (x + 1) y)
      (d.motion (x + 1) (y + 1))

  left_is : (d : Beside) → left_strength d items x y ≡ left_by d
  unfolding left_strength strength_by
  left_is d = refl

  top_is : (d : Beside) → top_strength d items x y ≡ top_by d
  unfolding top_strength strength_by
  top_is d = refl

  left_same : left_by b ≡ left_by c
  left_same =
      let e = same.disabled in
      let f = same.left in
      let g = same.own in
      let h = same.on_left in
      let i = around_own in
      let j = around_left in
      cc

  top_same : top_by b ≡ top_by c
  top_same =
      let e = same.disabled in
      let f = same.top in
      let g = same.own in
      let h = same.on_top in
      let i = around_own in
      let j = around_top in
      cc

  pub place_same : (pcm_disabled : Bool) (qp_bd_offset : ℕ)
      → unit_place b pcm_disabled qp_bd_offset items x y ≡ unit_place c pcm_disabled qp_bd_offset items x y
  unfolding unit_place
  place_same pcm_disabled qp_bd_offset =
      let with_left : ℕ → UnitPlace =
      λ s. record (unit_place b pcm_disabled qp_bd_offset items x y) { left_strength = s } in
      let with_top : ℕ → UnitPlace =
      λ s. record (unit_place c pcm_disabled qp_bd_offset items x y) { top_strength = s } in
      ap with_left (left_is b ∙ left_same ∙ sym (left_is c)) ∙ ap with_top (top_is b ∙ top_same ∙ sym (top_is c))
