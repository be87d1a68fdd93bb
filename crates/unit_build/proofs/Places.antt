-- Places in blocks of samples, and the units that have them.
use Rattle.std.proofs.Common.{◌≡◌, ℕ, ◌+◌, ◌-◌, ◌*◌, ◌/◌, ◌%◌, ◌<◌, ◌≤◌, ap, ◌∙◌, arith}
use Rattle.std.proofs.Math.Nat.{mod-lt, mul-le-mul_left}
use Rattle.std.proofs.lemmas.Nat.{div-mul-add, mod-mul-add, div_below, le-div}
use Rattle.picture_motion.proofs.PictureLayoutLemmas.{before, whole}

-- the block of a place
pub block_is : (n q x : ℕ) → n * q ≤ x → x < n * q + n → x / n ≡ q
block_is n q x le lt =
    let e : x ≡ q * n + (x - n * q) = grind arith in
    ap (λ k. k / n) e ∙ div-mul-add q n (x - n * q) (omega arith)

-- the row and the column of the unit at a place of a row that the units cover
pub row_is : (n w W a x y : ℕ) → 1 ≤ n → W ≤ n * w → x < W → w * (y / n) + x / n ≡ a → a / w ≡ y / n
row_is n w W a x y some covered lt e =
    let inside : x < w * n = grind arith in
    let below : x / n < w = div_below x n w some inside in
    let at : a ≡ y / n * w + x / n = grind arith in
    ap (λ k. k / w) at ∙ div-mul-add (y / n) w (x / n) below

pub column_is : (n w W a x y : ℕ) → 1 ≤ n → W ≤ n * w → x < W → w * (y / n) + x / n ≡ a → a % w ≡ x / n
column_is n w W a x y some covered lt e =
    let inside : x < w * n = grind arith in
    let below : x / n < w = div_below x n w some inside in
    let at : a ≡ y / n * w + x / n = grind arith in
    ap (λ k. k % w) at ∙ mod-mul-add (y / n) w (x / n) below

-- the unit at a place of one
pub unit_is : (n w a x y : ℕ) → n * (a % w) ≤ x → x < n * (a % w) + n → n * (a / w) ≤ y → y < n * (a / w) + n
    → w * (y / n) + x / n ≡ a
unit_is n w a x y xl xh yl yh =
    let q = block_is n (a % w) x xl xh in
    let r = block_is n (a / w) y yl yh in
    let e = whole a w in
    let at : w * (a / w) + a % w ≡ a = grind arith in
    ap (λ k. w * k + x / n) r ∙ ap (λ k. w * (a / w) + k) q ∙ at

-- so many
pub times_some : (n r : ℕ) → 1 ≤ r → n ≤ n * r
times_some n r some = omega (arith, before n r some)

pub times_none : (n r : ℕ) → r ≡ 0 → n * r ≡ 0
times_none n r none = let e : n * 0 ≡ 0 = grind arith in ap (λ k. n * k) none ∙ e

-- the unit in a column of the row above
pub unit_above : (n w a x q : ℕ) → 1 ≤ n → 1 ≤ a / w → x / n ≡ q
    → w * ((n * (a / w) - 1) / n) + x / n + w + a % w ≡ a + q
unit_above n w a x q some below e =
    let last = before n (a / w) below in
    let r : (n * (a / w) - 1) / n ≡ a / w - 1 =
    block_is n (a / w - 1) (n * (a / w) - 1) (omega (arith, last)) (omega (arith, last)) in
    let rows = before w (a / w) below in
    let wh = whole a w in
    let wh' : w * (a / w) + a % w ≡ a = grind arith in
    let u : w * ((n * (a / w) - 1) / n) + x / n ≡ w * (a / w - 1) + q =
    ap (λ k. w * k + x / n) r ∙ ap (λ k. w * (a / w - 1) + k) e in
    omega (arith, u, rows, wh')

-- the unit on the left
pub unit_left : (n w a y : ℕ) → 1 ≤ n → 1 ≤ a % w → n * (a / w) ≤ y → y < n * (a / w) + n
    → w * (y / n) + (n * (a % w) - 1) / n + 1 ≡ a
unit_left n w a y some right yl yh =
    let last = before n (a % w) right in
    let q : (n * (a % w) - 1) / n ≡ a % w - 1 =
    block_is n (a % w - 1) (n * (a % w) - 1) (omega (arith, last)) (omega (arith, last)) in
    let r = block_is n (a / w) y yl yh in
    let wh = whole a w in
    let wh' : w * (a / w) + a % w ≡ a = grind arith in
    let u : w * (y / n) + (n * (a % w) - 1) / n ≡ w * (a / w) + (a % w - 1) =
    ap (λ k. w * k + (n * (a % w) - 1) / n) r ∙ ap (λ k. w * (a / w) + k) q in
    omega (arith, u, wh')

-- a place right of a unit's first column and below its first line is of no unit before it
pub not_before : (n w a x y : ℕ) → 1 ≤ n → n * (a % w) ≤ x → n * (a / w) ≤ y → a ≤ w * (y / n) + x / n
not_before n w a x y some xl yl =
    let xl' : a % w * n ≤ x = grind arith in
    let yl' : a / w * n ≤ y = grind arith in
    let q = le-div (a % w) x n some xl' in
    let r = le-div (a / w) y n some yl' in
    let rows : w * (a / w) ≤ w * (y / n) = mul-le-mul_left w r in
    let wh = whole a w in
    let wh' : w * (a / w) + a % w ≡ a = grind arith in
    omega (arith, q, rows, wh')

-- a place in a row below the unit is of no unit before it
pub below : (n w a x y : ℕ) → 1 ≤ n → 1 ≤ w → n * (a / w) + n ≤ y → a ≤ w * (y / n) + x / n
below n w a x y some wide yl =
    let yl' : (a / w + 1) * n ≤ y = grind arith in
    let r = le-div (a / w + 1) y n some yl' in
    let rows : w * (a / w + 1) ≤ w * (y / n) = mul-le-mul_left w r in
    let wh = whole a w in
    let wh' : w * (a / w) + a % w ≡ a = grind arith in
    let more : w * (a / w + 1) ≡ w * (a / w) + w = grind arith in
    let column = mod-lt a wide in
    omega (arith, rows, wh', more, column)
