-- Places in blocks of samples, and the units that have them.
use Rattle.std.proofs.Common.{◌≡◌, ℕ, suc, ◌+◌, ◌-◌, ◌*◌, ◌/◌, ◌%◌, ◌<◌, ◌≤◌, ◌&&◌, refl, ap, sym, ◌∙◌}
use Rattle.std.proofs.Common.{arith}
use Rattle.std.proofs.Math.Nat.{div-mul-le_self, mod-eq-sub-div-mul, mod-lt}
use Rattle.spec_picture_trees.specs.SpecSliceData.{PictureShape}
use Rattle.spec_picture_trees.specs.Places.{has_place, is_available, may_be_read, unit_at, unit_places}

-- a number by its row and its column
pub whole : (a w : ℕ) → a / w * w + a % w ≡ a
whole a w = omega (arith, mod-eq-sub-div-mul a w, div-mul-le_self a w)

pub block_begins : (n x : ℕ) → n * (x / n) ≤ x
block_begins n x = let le = div-mul-le_self x n in grind arith

pub block_ends : (n x : ℕ) → 1 ≤ n → x < n * (x / n) + n
block_ends n x some =
    let le = div-mul-le_self x n in
    let e = mod-eq-sub-div-mul x n in
    let lt = mod-lt x some in
    let below : x < x / n * n + n = omega (arith, le, e, lt) in
    grind arith

-- one fewer
pub before : (n r : ℕ) → 1 ≤ r → n * (r - 1) + n ≡ n * r
before n r some =
    let e : r ≡ suc (r - 1) = omega arith in
    let f : n * suc (r - 1) ≡ n * (r - 1) + n = grind arith in sym f ∙ ap (λ k. n * k) (sym e)

-- the unit that has a place, and whether a place beside a unit is available for it
pub unit_is : (p : PictureShape) (side x y : ℕ) → unit_at p side x y ≡ p.width * (y / side) + x / side
unfolding unit_at
unit_is p side x y = refl

pub available_is : (p : PictureShape) (slice address x y : ℕ) → is_available p slice address x y
    ≡ (has_place p x y && may_be_read p (unit_places p) slice address x y)
unfolding is_available
available_is p slice address x y = refl

pub ruleset availability = (available_is, unit_is)
