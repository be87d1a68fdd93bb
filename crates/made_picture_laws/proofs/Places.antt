-- The motion of the places of made P and B pictures, unit by unit.
use Rattle.std.proofs.Common.{◌≡◌, ◌⊎◌, inl, inr, ℕ, ◌+◌, ◌-◌, ◌*◌, ◌/◌, ◌%◌, ◌<◌, ◌≤◌, cond, Bool, true}
use Rattle.std.proofs.Common.{false, ◌&&◌, ◌||◌, nat_le, nat_lt, Option, Some, None, refl, ap, ◌∙◌, arith}
use Rattle.std.specs.Prelude.{◌==◌}
use Rattle.std.proofs.lemmas.Bool.{and_parts, cases_lt, le-leb, leb-true, lt-ltb, ltb-true}
use Rattle.spec_motion.specs.declared.vectors.Motion.{Motion}
use Rattle.picture_buffer.specs.declared.place_motion.PlaceMotion.{PlaceMotion}
use Rattle.spec_picture_trees.specs.Places.{is_available, is_of_unit, unit_at}
use Rattle.spec_picture_motion.specs.Field.{Motions, known_beside, motion_beside, motion_of}
use Rattle.made_motion_laws.specs.Keeping.{IsBesideUnit}
use Rattle.made_motion_laws.specs.Uniform.{IsOrNone}
use Rattle.made_row_laws.specs.Shapes.{made_shape}
use Rattle.made_picture_laws.proofs.Laying.{unit_of_place}
use Rattle.made_picture_laws.proofs.Tests.{both, when_true}

or_first : (a b : Bool) → a ≡ true → (a || b) ≡ true
or_first true b e = refl
or_first false b e = absurd cc

or_second : (a b : Bool) → b ≡ true → (a || b) ≡ true
or_second true b e = refl
or_second false b e = e

-- none, or this motion
abbrev pub IsPlaceOrNone : PlaceMotion → Option PlaceMotion → Type 0
IsPlaceOrNone pm place = (place ≡ None) ⊎ (place ≡ Some pm)

-- a place of a unit of the picture
pub record IsPlaceOf (i x y : ℕ) : Type 0 where
  pub column : x < 32
  pub row : y < 24
  pub left : 4 * (i % 8) ≤ x
  pub right : x < 4 * (i % 8) + 4
  pub above : 4 * (i / 8) ≤ y
  pub below : y < 4 * (i / 8) + 4

pub place_of_unit : (i x y : ℕ) → is_of_unit made_shape i x y ≡ true → IsPlaceOf i x y
place_of_unit i x y held =
    let parts = and_parts (nat_lt x 32 && nat_lt y 24) _ held in
    let inside = and_parts (nat_lt x 32) _ parts.0 in
    let sides = and_parts (nat_le (4 * (i % 8)) x && nat_lt x (4 * (i % 8) + 4)) _ parts.1 in
    let across = and_parts (nat_le (4 * (i % 8)) x) _ sides.0 in
    let down = and_parts (nat_le (4 * (i / 8)) y) _ sides.1 in
    record {
      column = ltb-true x 32 inside.0;
      row = ltb-true y 24 inside.1;
      left = leb-true (4 * (i % 8)) x across.0;
      right = ltb-true x (4 * (i % 8) + 4) across.1;
      above = leb-true (4 * (i / 8)) y down.0;
      below = ltb-true y (4 * (i / 8) + 4) down.1;
    }

module _ (m : Motion) (pm : PlaceMotion) (told : motion_of (Some pm) ≡ Some m) (motions : Motions) where
  known_cond : (b : Bool) (place : Option PlaceMotion) → IsPlaceOrNone pm place
      → IsOrNone m (cond b (motion_of place) None)
  known_cond true place (inl none) = inl (ap motion_of none)
  known_cond true place (inr some) = inr (ap motion_of some ∙ told)
  known_cond false place is = inl refl

  none_cond : (b : Bool) (o : Option Motion) → IsOrNone m o → IsOrNone m (cond b o None)
  none_cond true o is = is
  none_cond false o is = inl refl

  pub beside_each : (slice i : ℕ) → ((x y : ℕ) → IsPlaceOrNone pm (motions x y)) → (column row : ℕ)
      → IsOrNone m (known_beside made_shape slice i motions column row)
  unfolding known_beside motion_beside
  beside_each slice i each column row =
      none_cond _ _ (known_cond _ (motions (4 * (i % 8) + column - 1) (4 * (i / 8) + row - 1)) (each _ _))

  available : (i x y : ℕ) → x < 32 → y < 24 → unit_of_place x y < i → is_available made_shape 0 i x y ≡ true
  unfolding is_available unit_at
  available i x y few low before =
      both _ _ (both _ _ (lt-ltb x 32 few) (lt-ltb y 24 low))
      (both _ _ (le-leb 0 (unit_of_place x y) (omega arith)) (lt-ltb (unit_of_place x y) i before))

  beside_at : (i column row : ℕ) → ((row == 0 && nat_le column 8) || (column == 0 && nat_le row 4)) ≡ true
      → 1 ≤ 4 * (i % 8) + column → 1 ≤ 4 * (i / 8) + row
      → 4 * (i % 8) + column - 1 < 32 → 4 * (i / 8) + row - 1 < 24
      → unit_of_place (4 * (i % 8) + column - 1) (4 * (i / 8) + row - 1) < i
      → motions (4 * (i % 8) + column - 1) (4 * (i / 8) + row - 1) ≡ Some pm
      → known_beside made_shape 0 i motions column row ≡ Some m
  unfolding known_beside motion_beside
  beside_at i column row border left above few low before is =
      when_true _ _ _ _ border
      (when_true _ _ _ _
      (both _ _ (both _ _ (le-leb 1 (4 * (i % 8) + column) left) (le-leb 1 (4 * (i / 8) + row) above))
      (available i (4 * (i % 8) + column - 1) (4 * (i / 8) + row - 1) few low before))
      (ap motion_of is ∙ told))

  -- a unit behind the first one of a picture
  pub beside_unit : (i : ℕ) → 1 ≤ i → i < 48 → ((x y : ℕ) → IsPlaceOrNone pm (motions x y))
      → ((x y : ℕ) → x < 32 → y < 24 → unit_of_place x y < i → motions x y ≡ Some pm)
      → IsBesideUnit m (known_beside made_shape 0 i motions)
  beside_unit i some inside each before = record {
    each = beside_each 0 i each;
    some = elim (cases_lt 0 (i % 8)) [
      | inl behind ↦ inl (λ k first last.
          let border : ((k == 0 && nat_le 0 8) || (0 == 0 && nat_le k 4)) ≡ true =
          or_second (k == 0 && nat_le 0 8) (nat_le k 4) (le-leb k 4 last) in
          beside_at i 0 k border (omega arith) (omega arith) (omega arith) (omega arith) (omega arith)
          (before _ _ (omega arith) (omega arith) (omega arith)))
      | inr begins ↦ inr (λ k first last.
          let border : ((0 == 0 && nat_le k 8) || (k == 0 && nat_le 0 4)) ≡ true =
          or_first (nat_le k 8) (k == 0 && nat_le 0 4) (le-leb k 8 (omega arith)) in
          beside_at i k 0 border (omega arith) (omega arith) (omega arith) (omega arith) (omega arith)
          (before _ _ (omega arith) (omega arith) (omega arith)))
    ];
  }

  none_known : (b : Bool) (place : Option PlaceMotion) → place ≡ None → cond b (motion_of place) None ≡ None
  none_known true place e = ap motion_of e
  none_known false place e = refl

  none_either : (b : Bool) (o : Option Motion) → o ≡ None → cond b o None ≡ None
  none_either true o e = e
  none_either false o e = refl

  pub beside_none : (slice i : ℕ) → ((x y : ℕ) → motions x y ≡ None) → (column row : ℕ)
      → known_beside made_shape slice i motions column row ≡ None
  unfolding known_beside motion_beside
  beside_none slice i none column row =
      none_either _ _ (none_known _ (motions (4 * (i % 8) + column - 1) (4 * (i / 8) + row - 1)) (none _ _))
