-- The columns of samples of coding tree units, by component.
use Rattle.std.proofs.Common.{◌≡◌, ℕ, zero, suc, ◌+◌, ◌-◌, ◌*◌, ◌/◌, ◌^◌, ◌<◌, ◌≤◌, ◌==◌, min, arith, ap}
use Rattle.std.proofs.Common.{Bool, true, false, cond}
use Rattle.std.proofs.lemmas.Nat.{div-add-mod', mod_below}
use Rattle.std.proofs.Math.Nat.{div-mul-le_self, mul-le-mul_right, pow-suc}
use Rattle.sample_words.specs.declared.sizes.FlightSizes.{FlightSizes}
use Rattle.sample_words.specs.Contents.{component_side}
use Rattle.sample_words.specs.Sizes.{IsFlight, columns, ctb_size, width_of}
use Rattle.sample_words.proofs.Extents.{some_side}
use Rattle.sample_words.proofs.Parts.{next_part}

-- where a unit begins and how many samples it has, by those of luma: all units but the last have as many
side_ends : (luma : Bool) (p side width q h : ℕ) → p ≡ 2 * q → side ≡ 2 * h → p ≤ width
    → cond luma p (p / 2) + cond luma (min side (width - p)) (min side (width - p) / 2) ≤ cond luma width (width / 2)
side_ends true p side width q h e f less = omega (arith, e, f, less)
side_ends false p side width q h e f less = omega (arith, e, f, less)

side_covers : (luma : Bool) (p side width x q h : ℕ) → p ≡ 2 * q → side ≡ 2 * h → cond luma p (p / 2) ≤ x
    → x < cond luma (p + side) ((p + side) / 2) → x < cond luma width (width / 2)
    → x - cond luma p (p / 2) < cond luma (min side (width - p)) (min side (width - p) / 2)
side_covers true p side width x q h e f low high inside = omega (arith, e, f, low, high, inside)
side_covers false p side width x q h e f low high inside = omega (arith, e, f, low, high, inside)

side_most : (luma : Bool) (a b : ℕ) → a ≤ b → cond luma a (a / 2) ≤ cond luma b (b / 2)
side_most true a b le = le
side_most false a b le = omega (arith, le)

-- CtbSizeY is even
half_power : (n : ℕ) → 4 ≤ n → 2 ^ n ≡ 2 * 2 ^ (n - 1)
half_power zero some = absurd (omega (arith, some))
half_power (suc n) some =
    let e : suc n - 1 ≡ n = omega arith in
    let p = pow-suc 2 n in
    let q : 2 ^ (suc n - 1) ≡ 2 ^ n = ap (λ (m : ℕ). 2 ^ m) e in
    omega (arith, p, q)

half_side : (s : FlightSizes) → IsFlight s → ctb_size s ≡ 2 * 2 ^ (s.ctb_log2 - 1)
half_side s is = half_power s.ctb_log2 is.least_unit

half_start : (s : FlightSizes) (k : ℕ) → IsFlight s → k * ctb_size s ≡ 2 * (k * 2 ^ (s.ctb_log2 - 1))
half_start s k is = let e = ap (λ (n : ℕ). k * n) (half_side s is) in omega (arith, e)

-- a unit begins before the picture's last column
begins_inside : (s : FlightSizes) (k : ℕ) → k < columns s → k * ctb_size s < s.width
unfolding columns
begins_inside s k less =
    let side : ℕ = ctb_size s in
    let some = some_side s in
    let all = div-mul-le_self (s.width + (side - 1)) side in
    let le : (k + 1) * side ≤ columns s * side = mul-le-mul_right side (omega (arith, less)) in
    let next = next_part k side in
    omega (arith, some, all, le, next)

pub unit_ends : (s : FlightSizes) (c k : ℕ) → IsFlight s → k < columns s
    → component_side c (k * ctb_size s) + component_side c (width_of s k) ≤ component_side c s.width
unfolding width_of
unit_ends s c k is less =
    let inside = begins_inside s k less in
    side_ends (c == 0) (k * ctb_size s) (ctb_size s) s.width (k * 2 ^ (s.ctb_log2 - 1)) (2 ^ (s.ctb_log2 - 1))
    (half_start s k is) (half_side s is) (omega (arith, inside))

pub unit_covers : (s : FlightSizes) (c k x : ℕ) → IsFlight s → component_side c (k * ctb_size s) ≤ x
    → x < component_side c ((k + 1) * ctb_size s) → x < component_side c s.width
    → x - component_side c (k * ctb_size s) < component_side c (width_of s k)
unfolding width_of
unit_covers s c k x is low high inside =
    let next = next_part k (ctb_size s) in
    let most = side_most (c == 0) ((k + 1) * ctb_size s) (k * ctb_size s + ctb_size s) (omega (arith, next)) in
    side_covers (c == 0) (k * ctb_size s) (ctb_size s) s.width x (k * 2 ^ (s.ctb_log2 - 1)) (2 ^ (s.ctb_log2 - 1))
    (half_start s k is) (half_side s is) low (omega (arith, high, most)) inside

-- the units of a row have all columns
pub units_cover : (s : FlightSizes) (c : ℕ) → component_side c s.width ≤ component_side c (columns s * ctb_size s)
unfolding columns
units_cover s c =
    let side : ℕ = ctb_size s in
    let some = some_side s in
    let whole = div-add-mod' (s.width + (side - 1)) side in
    let rest = mod_below (s.width + (side - 1)) side some in
    side_most (c == 0) s.width (columns s * side) (omega (arith, some, whole, rest))
