-- The vectors of made pictures, and the samples that they lead to.
use Rattle.std.proofs.Common.{◌≡◌, inl, inr, ℕ, zero, suc, ◌+◌, ◌-◌, ◌*◌, ◌<◌, ◌≤◌, cond, Bool, true, false}
use Rattle.std.proofs.Common.{nat_lt, List, Option, Some, None, ℤ, pos, ◌+ℤ◌, ◌-ℤ◌}
use Rattle.std.proofs.Common.{◌*ℤ◌}
use Rattle.std.proofs.Common.{refl, sym, ap, subst, ◌∙◌, arith}
use Rattle.std.specs.Prelude.{◌==◌, min}
use Rattle.std.specs.Int.RustNames.{FitsSigned}
use Rattle.std.proofs.lemmas.Int.{ints}
use Rattle.std.proofs.lemmas.Bool.{cases_lt, le-ltb, lt-ltb}
use Rattle.std.proofs.lemmas.Bool.Decides.{nat_tests}
use mir.Syntax.{w16}
use Rattle.spec_arithmetic.specs.Clipping.{clip3_from_zero}
use Rattle.spec_slice_data.specs.Offset.{negated, signed}
use Rattle.spec_inter_prediction.specs.Taps.{clamped}
use Rattle.spec_picture_build.specs.References.{DecodedPicture, pictures_of, reference_sample}
use Rattle.spec_made.specs.declared.units.Motion.{Motion}
use Rattle.spec_made.specs.declared.units.Shift.{Shift}
use Rattle.spec_made.specs.InterRows.{size_of}
use Rattle.spec_made.specs.Planes.{Planes, moved_planes, moved_sample}
use Rattle.made_motion_laws.specs.Keeping.{AreFirst, IsFirst}
use Rattle.made_laws.specs.Sets.{made_format}
use Rattle.made_row_laws.specs.Units.{IsMotion, IsSecond, IsShift}
use Rattle.made_picture_laws.specs.Motion.{motion_drawn, second_at, vector_at}
use Rattle.made_picture_laws.specs.Pictures.{AreBytes, HasDrawn, drawn_at, height_of, width_of}
use Rattle.made_picture_laws.proofs.Planes.{plane_at_16, plane_at_8}

-- ---- their sizes

size_small : (d : ℕ) → d ≤ 200 → size_of d ≤ 800
size_small d few = omega arith

signed_small : (n : ℕ) (b : Bool) → n ≤ 800 → FitsSigned w16 (signed n b)
unfolding signed
signed_small zero true few = record { sfits = omega arith }
signed_small (suc n) true few = record { sfits = omega arith }
signed_small n false few = record { sfits = omega arith }

vector_first : (s : Shift) → IsShift s → IsFirst (vector_at s)
vector_first s small = record {
  index = refl;
  x = signed_small (size_of s.across) (nat_lt s.across 100) (size_small s.across small.0);
  y = signed_small (size_of s.down) (nat_lt s.down 100) (size_small s.down small.1);
}

second_first : (o : Option Shift) → IsSecond o → AreFirst (second_at o)
second_first None small = tt
second_first (Some s) small = vector_first s small

pub list_0_first : (m : Motion) → IsMotion m → AreFirst (motion_drawn m).list_0
list_0_first m small = vector_first m.first small.0

pub list_1_first : (m : Motion) → IsMotion m → AreFirst (motion_drawn m).list_1
list_1_first m small = second_first m.second small.1

-- ---- in samples

negated_is : (n : ℕ) → negated n ≡ pos 0 -ℤ pos n
negated_is zero = refl
negated_is (suc n) = omega (arith, ints)

-- eight quarters for each step
signed_is : (d : ℕ) → signed (size_of d) (nat_lt d 100) ≡ pos 8 *ℤ (pos d -ℤ pos 100)
unfolding signed
signed_is d =
    elim (cases_lt d 100) [
      | inl less ↦
          let test : nat_lt d 100 ≡ true = lt-ltb d 100 less in
          let size : size_of d ≡ 8 * (100 - d) = omega arith in
          rw (test, size) (negated_is (8 * (100 - d)) ∙ omega (arith, ints))
      | inr more ↦
          let test : nat_lt d 100 ≡ false = le-ltb d 100 more in
          let size : size_of d ≡ 8 * (d - 100) = omega arith in
          rw (test, size) (omega (arith, ints))
    ]

pub luma_step : (d : ℕ) → signed (size_of d) (nat_lt d 100) ≡ pos 4 *ℤ (pos 2 *ℤ (pos d -ℤ pos 100))
luma_step d = let e = signed_is d in omega (arith, ints, e)

pub chroma_step : (d : ℕ) → signed (size_of d) (nat_lt d 100) ≡ pos 8 *ℤ (pos d -ℤ pos 100)
chroma_step d = signed_is d

-- ---- the nearest sample inside

clamp_two : (most x d : ℕ) → clip3_from_zero most (pos x +ℤ pos 2 *ℤ (pos d -ℤ pos 100)) ≡ min (x + 2 * d - 200) most
clamp_two most x d = grind (arith, ints)

clamp_one : (most x d : ℕ) → clip3_from_zero most (pos x +ℤ (pos d -ℤ pos 100)) ≡ min (x + 1 * d - 100) most
clamp_one most x d = grind (arith, ints)

clamp_few : (most : ℕ) (z : ℤ) → clip3_from_zero most z ≤ most
clamp_few most z = grind (arith, ints)

-- how far a vector leads in a component
abbrev pub steps : ℕ → ℕ → ℤ
steps c d = cond (c == 0) (pos 2 *ℤ (pos d -ℤ pos 100)) (pos d -ℤ pos 100)

least_is : (a b : ℕ) → a ≤ b → min a b ≡ a
least_is a b few = grind (arith, nat_tests)

held_is : (d : DecodedPicture) (c a b v : ℕ) (x y : ℤ) → d.format ≡ made_format → clamped x (width_of c) ≡ a
    → clamped y (height_of c) ≡ b → c < 3 → d.samples c a b ≡ v → v < 256
    → reference_sample made_format (Some d) c x y ≡ v
unfolding reference_sample
held_is d zero a b v x y format across down least is small =
    rw (format, across, down, is) (least_is v 255 (omega arith))
held_is d (suc zero) a b v x y format across down least is small =
    rw (format, across, down, is) (least_is v 255 (omega arith))
held_is d (suc (suc zero)) a b v x y format across down least is small =
    rw (format, across, down, is) (least_is v 255 (omega arith))
held_is d (suc (suc (suc c))) a b v x y format across down least is small = absurd (omega arith)

module _ (planes : Planes) (bytes : AreBytes planes) (buffer : List DecodedPicture) (place : ℕ)
    (has : HasDrawn planes buffer place) (s : Shift) where
  reference_at : (c a b : ℕ) (x y : ℤ) → c < 3 → clamped x (width_of c) ≡ a → clamped y (height_of c) ≡ b
      → a < width_of c → b < height_of c
      → pictures_of made_format buffer place c x y ≡ drawn_at planes c a b
  reference_at c a b x y least across down few low =
      ap (λ (o : Option DecodedPicture). reference_sample made_format o c x y) has.there
      ∙ held_is has.picture c a b (drawn_at planes c a b) x y has.drawn.format across down least
      (has.drawn.samples c a b least few low) (bytes c a b least few low)

  pub moved_is : (c x y : ℕ) → c < 3 → x < width_of c → y < height_of c
      → pictures_of made_format buffer place c (pos x +ℤ steps c s.across) (pos y +ℤ steps c s.down)
      ≡ drawn_at (moved_planes planes s) c x y
  unfolding moved_sample clamped
  moved_is zero x y least few low =
      reference_at 0 (min (x + 2 * s.across - 200) 127) (min (y + 2 * s.down - 200) 95) _ _ least
      (clamp_two 127 x s.across) (clamp_two 95 y s.down) (grind (arith, nat_tests)) (grind (arith, nat_tests))
      ∙ sym (plane_at_16 (moved_sample planes.luma 16 s) x y few low)
  moved_is (suc zero) x y least few low =
      reference_at 1 (min (x + 1 * s.across - 100) 63) (min (y + 1 * s.down - 100) 47) _ _ least
      (clamp_one 63 x s.across) (clamp_one 47 y s.down) (grind (arith, nat_tests)) (grind (arith, nat_tests))
      ∙ sym (plane_at_8 (moved_sample planes.cb 8 s) x y few low)
  moved_is (suc (suc zero)) x y least few low =
      reference_at 2 (min (x + 1 * s.across - 100) 63) (min (y + 1 * s.down - 100) 47) _ _ least
      (clamp_one 63 x s.across) (clamp_one 47 y s.down) (grind (arith, nat_tests)) (grind (arith, nat_tests))
      ∙ sym (plane_at_8 (moved_sample planes.cr 8 s) x y few low)
  moved_is (suc (suc (suc c))) x y least few low = absurd (omega arith)

-- ---- bytes

least_few : (a b n : ℕ) → b < n → min a b < n
least_few a b n few = grind (arith, nat_tests)

pub moved_bytes : (planes : Planes) (s : Shift) → AreBytes planes → AreBytes (moved_planes planes s)
unfolding moved_sample
moved_bytes planes s bytes zero x y least few low =
    subst (λ v. v < 256) (sym (plane_at_16 (moved_sample planes.luma 16 s) x y few low))
    (bytes 0 (min (x + 2 * s.across - 200) 127) (min (y + 2 * s.down - 200) 95) least (least_few _ 127 128 (omega
    arith))
    (least_few _ 95 96 (omega arith)))
moved_bytes planes s bytes (suc zero) x y least few low =
    subst (λ v. v < 256) (sym (plane_at_8 (moved_sample planes.cb 8 s) x y few low))
    (bytes 1 (min (x + 1 * s.across - 100) 63) (min (y + 1 * s.down - 100) 47) least (least_few _ 63 64 (omega arith))
    (least_few _ 47 48 (omega arith)))
moved_bytes planes s bytes (suc (suc zero)) x y least few low =
    subst (λ v. v < 256) (sym (plane_at_8 (moved_sample planes.cr 8 s) x y few low))
    (bytes 2 (min (x + 1 * s.across - 100) 63) (min (y + 1 * s.down - 100) 47) least (least_few _ 63 64 (omega arith))
    (least_few _ 47 48 (omega arith)))
moved_bytes planes s bytes (suc (suc (suc c))) x y least few low = absurd (omega arith)
