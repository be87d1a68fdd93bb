-- What a unit lays over a made picture: samples, and places.
use Rattle.std.proofs.Common.{◌≡◌, ℕ, zero, suc, ◌+◌, ◌-◌, ◌*◌, ◌/◌, ◌%◌, ◌<◌, true, false, ◌&&◌, nat_le}
use Rattle.std.proofs.Common.{nat_lt, refl, ap, ◌∙◌, arith}
use Rattle.std.specs.Option.{unwrap_or}
use Rattle.std.proofs.lemmas.Bool.{and_parts, le-leb, leb-true, lt-ltb, ltb-true}
use Rattle.spec_reconstruction.specs.Known.{Known}
use Rattle.spec_picture_trees.specs.Places.{is_of_unit as is_place_of_unit, unit_at}
use Rattle.spec_picture_build.specs.Border.{Samples, has_sample}
use Rattle.spec_picture_build.specs.Built.{unit_laid}
use Rattle.made_row_laws.specs.Shapes.{made_shape}
use Rattle.made_sample_laws.specs.Units.{side_of}
use Rattle.made_picture_laws.specs.Pictures.{height_of, width_of}
use Rattle.made_picture_laws.proofs.Tests.{both, must_false, other_test, same_test, second_not, when_false, when_true}

-- the unit that has a sample of a component
abbrev pub unit_of : ℕ → ℕ → ℕ → ℕ
unit_of c x y = 8 * (y / side_of c) + x / side_of c

known_at : (known : Known) (c a b a' b' : ℕ) → a ≡ a' → b ≡ b'
    → unwrap_or (known c a b) 0 ≡ unwrap_or (known c a' b') 0
known_at known c a b a' b' e f =
    ap (λ k. unwrap_or (known c k b) 0) e ∙ ap (λ k. unwrap_or (known c a' k) 0) f

-- a sample of the unit
pub laid_here : (i c x y : ℕ) (known : Known) (samples : Samples) → c < 3 → x < width_of c → y < height_of c
    → unit_of c x y ≡ i
    → unit_laid made_shape i known samples c x y ≡ unwrap_or (known c (x % side_of c + 1) (y % side_of c + 1)) 0
unfolding unit_laid has_sample unit_at
laid_here i zero x y known samples least few low at =
    let column : x - 16 * (i % 8) + 1 ≡ x % 16 + 1 = omega arith in
    let line : y - 16 * (i / 8) + 1 ≡ y % 16 + 1 = omega arith in
    when_true _ _ _ _
    (both _ _ (both _ _ (lt-ltb x 128 few) (lt-ltb y 96 low)) (same_test (8 * (y / 16) + x / 16) i at))
    (known_at known 0 _ _ _ _ column line)
laid_here i (suc zero) x y known samples least few low at =
    let column : x - 8 * (i % 8) + 1 ≡ x % 8 + 1 = omega arith in
    let line : y - 8 * (i / 8) + 1 ≡ y % 8 + 1 = omega arith in
    when_true _ _ _ _
    (both _ _ (both _ _ (lt-ltb x 64 few) (lt-ltb y 48 low)) (same_test (8 * (y / 8) + x / 8) i at))
    (known_at known 1 _ _ _ _ column line)
laid_here i (suc (suc zero)) x y known samples least few low at =
    let column : x - 8 * (i % 8) + 1 ≡ x % 8 + 1 = omega arith in
    let line : y - 8 * (i / 8) + 1 ≡ y % 8 + 1 = omega arith in
    when_true _ _ _ _
    (both _ _ (both _ _ (lt-ltb x 64 few) (lt-ltb y 48 low)) (same_test (8 * (y / 8) + x / 8) i at))
    (known_at known 2 _ _ _ _ column line)
laid_here i (suc (suc (suc c))) x y known samples least few low at = absurd (omega arith)

-- a sample of another one
pub laid_elsewhere : (i c x y : ℕ) (known : Known) (samples : Samples) → c < 3 → ¬ (unit_of c x y ≡ i)
    → unit_laid made_shape i known samples c x y ≡ samples c x y
unfolding unit_laid unit_at
laid_elsewhere i zero x y known samples least apart =
    when_false _ _ _ _ (second_not (has_sample made_shape 0 x y) _ (other_test (8 * (y / 16) + x / 16) i apart)) refl
laid_elsewhere i (suc zero) x y known samples least apart =
    when_false _ _ _ _ (second_not (has_sample made_shape 1 x y) _ (other_test (8 * (y / 8) + x / 8) i apart)) refl
laid_elsewhere i (suc (suc zero)) x y known samples least apart =
    when_false _ _ _ _ (second_not (has_sample made_shape 2 x y) _ (other_test (8 * (y / 8) + x / 8) i apart)) refl
laid_elsewhere i (suc (suc (suc c))) x y known samples least apart = absurd (omega arith)

-- ---- places

-- the unit that has a place
abbrev pub unit_of_place : ℕ → ℕ → ℕ
unit_of_place x y = 8 * (y / 4) + x / 4

pub place_here : (i x y : ℕ) → x < 32 → y < 24 → unit_of_place x y ≡ i → is_place_of_unit made_shape i x y ≡ true
place_here i x y few low at =
    both _ _ (both _ _ (lt-ltb x 32 few) (lt-ltb y 24 low))
    (both _ _
    (both _ _ (le-leb (4 * (i % 8)) x (omega arith)) (lt-ltb x (4 * (i % 8) + 4) (omega arith)))
    (both _ _ (le-leb (4 * (i / 8)) y (omega arith)) (lt-ltb y (4 * (i / 8) + 4) (omega arith))))

outside_unit : (i x y : ℕ) → x < 32 → i < 48 → ¬ (unit_of_place x y ≡ i)
    → ((nat_le (4 * (i % 8)) x && nat_lt x (4 * (i % 8) + 4)) && (nat_le (4 * (i / 8)) y && nat_lt y (4 * (i / 8) + 4)))
    ≡ false
outside_unit i x y few inside apart =
    must_false _ (λ held.
    let parts = and_parts (nat_le (4 * (i % 8)) x && nat_lt x (4 * (i % 8) + 4)) _ held in
    let across = and_parts (nat_le (4 * (i % 8)) x) _ parts.0 in
    let down = and_parts (nat_le (4 * (i / 8)) y) _ parts.1 in
    let left = leb-true (4 * (i % 8)) x across.0 in
    let right = ltb-true x (4 * (i % 8) + 4) across.1 in
    let above = leb-true (4 * (i / 8)) y down.0 in
    let below = ltb-true y (4 * (i / 8) + 4) down.1 in
    apart (omega arith))

pub place_elsewhere : (i x y : ℕ) → x < 32 → i < 48 → ¬ (unit_of_place x y ≡ i)
    → is_place_of_unit made_shape i x y ≡ false
place_elsewhere i x y few inside apart = second_not _ _ (outside_unit i x y few inside apart)

-- a place that the picture hasn't
pub place_past : (i x y : ℕ) → ¬ ((x < 32) × (y < 24)) → is_place_of_unit made_shape i x y ≡ false
place_past i x y past =
    must_false _ (λ held.
    let parts = and_parts (nat_lt x 32 && nat_lt y 24) _ held in
    let inside = and_parts (nat_lt x 32) _ parts.0 in
    past (ltb-true x 32 inside.0, ltb-true y 24 inside.1))
