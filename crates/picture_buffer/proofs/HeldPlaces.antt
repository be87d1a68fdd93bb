-- Motion in range, place by place.
use Rattle.std.proofs.Common.{◌≡◌, ℕ, ◌<◌, ◌≤◌, Bool, true, false, Option, IfSome, Some, None, refl, arith, inl, inr}
use Rattle.std.specs.Prelude.{◌&&◌, nat_lt}
use Rattle.std.proofs.lemmas.Bool.{cases_lt, le-ltb}
use Rattle.picture_buffer.specs.declared.place_motion.PlaceMotion.{PlaceMotion}
use Rattle.picture_buffer.specs.Held.{AreMotionsHeld, IsMotionHeld}
use Rattle.picture_buffer.specs.Motion.{FieldPlaces, motions_of}

-- a place has no motion, or one in range
abbrev pub IsPlaceHeld : FieldPlaces → ℕ → ℕ → Type 0
IsPlaceHeld field x y = IfSome (motions_of field x y) IsMotionHeld

both_false : (a b : Bool) → b ≡ false → (a && b) ≡ false
both_false true b e = e
both_false false b e = refl

outside_column : (field : FieldPlaces) (x y : ℕ) → field.across ≤ x → motions_of field x y ≡ None
unfolding motions_of
outside_column field x y past = let no : nat_lt x field.across ≡ false = le-ltb x field.across past in rw no refl

outside_row : (field : FieldPlaces) (x y : ℕ) → field.down ≤ y → motions_of field x y ≡ None
unfolding motions_of
outside_row field x y past =
    let no : (nat_lt x field.across && nat_lt y field.down) ≡ false =
    both_false (nat_lt x field.across) (nat_lt y field.down) (le-ltb y field.down past) in
    rw no refl

none_held : (m : Option PlaceMotion) → m ≡ None → IfSome m IsMotionHeld
none_held None e = tt
none_held (Some m) e = absurd cc

-- a row as far as the picture goes
pub row_held : (field : FieldPlaces) (y n : ℕ) → field.across ≤ n → ((x : ℕ) → x < n → IsPlaceHeld field x y)
    → (x : ℕ) → IsPlaceHeld field x y
row_held field y n all before x =
    elim (cases_lt x n) [
      | inl below ↦ before x below
      | inr past ↦ none_held (motions_of field x y) (outside_column field x y (omega (arith, all, past)))
    ]

-- all rows
pub rows_held : (field : FieldPlaces) (n : ℕ) → field.down ≤ n → ((y : ℕ) → y < n → (x : ℕ) → IsPlaceHeld field x y)
    → AreMotionsHeld field
rows_held field n all before x y =
    elim (cases_lt y n) [
      | inl below ↦ before y below x
      | inr past ↦ none_held (motions_of field x y) (outside_row field x y (omega (arith, all, past)))
    ]
