-- The lines that the offsets of a row of coding tree blocks read.
use Rattle.std.proofs.Common.{◌≡◌, ℕ, ◌+◌, ◌-◌, ◌*◌, ◌<◌, ◌≤◌, ◌&&◌, true, false, cond, nat_le, nat_lt, List, get_or}
use Rattle.std.proofs.Common.{length, take, drop, inl, inr, refl, ap, ◌∙◌, arith}
use Rattle.std.proofs.lemmas.Bool.{cases_lt}
use Rattle.std.proofs.lemmas.List.{get_or-drop, get_or-take, length-drop, length-take-le}
use borrow.Rule.Slice.PartMut.{put_mid}
use Rattle.picture_buffer.proofs.Laying.{part_at}
use Rattle.std.specs.Prelude.{min}
use Rattle.std.proofs.lemmas.Bool.Decides.{nat_tests}
use Rattle.std.proofs.Math.Nat.{mul-le-mul_left}
use Rattle.deblock.specs.Windows.{at}
use Rattle.deblock.proofs.Laying.{cond_by, cond_no, cond_yes}
use Rattle.loop_filters.proofs.Copied.{cond_under, line_below}
use Rattle.loop_filters.proofs.RowParts.{times_sum}

pub lines_fit : (w a b m n : ℕ) → a + b ≤ m → w * m ≤ n → w * a + w * b ≤ n
lines_fit w a b m n le room =
    let e = times_sum w a b in
    let more : w * (a + b) ≤ w * m = mul-le-mul_left w le in
    omega (arith, e, more, room)

-- a line of the row, or the one below it
pub own_line : (w top behind skip x y : ℕ) (samples lines start : List ℕ) → skip ≡ min top 1 → x < w → top ≤ y
    → y < behind
    → ((k : ℕ) → get_or lines k 0
    ≡ cond (nat_le (w * skip) k && nat_lt k (w * skip + w * (behind - top)))
    (get_or samples (w * top + (k - w * skip)) 0) (get_or start k 0))
    → at w lines x (y - (top - 1)) ≡ at w samples x y
own_line w top behind skip x y samples lines start is column low high told =
    let line : y - (top - 1) ≡ skip + (y - top) = omega (arith, is, low) in
    let e = times_sum w skip (y - top) in
    let below = line_below w (y - top) (behind - top) (omega (arith, low, high)) in
    let t : (nat_le (w * skip) (w * (skip + (y - top)) + x)
    && nat_lt (w * (skip + (y - top)) + x) (w * skip + w * (behind - top))) ≡ true = grind (arith, nat_tests) in
    let place : w * top + (w * (skip + (y - top)) + x - w * skip) ≡ w * y + x =
    let f = times_sum w top (y - top) in
    let g : top + (y - top) ≡ y = omega (arith, low) in
    let k : w * (top + (y - top)) ≡ w * y = ap (λ (n : ℕ). w * n) g in
    omega (arith, e, f, k) in
    ap (λ (l : ℕ). at w lines x l) line
    ∙ cond_yes _ _ _ _ (told (w * (skip + (y - top)) + x)) t
    ∙ ap (λ (n : ℕ). get_or samples n 0) place

-- it stays when the line above is laid
pub own_stays : (w top x y : ℕ) (last lines start : List ℕ) → 0 < top → top ≤ y
    → ((k : ℕ) → get_or lines k 0
    ≡ cond (nat_le 0 k && nat_lt k (0 + w)) (get_or last (0 + (k - 0)) 0) (get_or start k 0))
    → at w lines x (y - (top - 1)) ≡ at w start x (y - (top - 1))
own_stays w top x y last lines start some low told =
    let below = line_below w 0 (y - (top - 1)) (omega (arith, some, low)) in
    let none : w * 0 ≡ 0 = grind arith in
    let t : (nat_le 0 (w * (y - (top - 1)) + x) && nat_lt (w * (y - (top - 1)) + x) (0 + w)) ≡ false =
    grind (arith, nat_tests) in
    cond_no _ _ _ _ (told (w * (y - (top - 1)) + x)) t

pub above_line : (w x : ℕ) (last lines start : List ℕ) → x < w
    → ((k : ℕ) → get_or lines k 0
    ≡ cond (nat_le 0 k && nat_lt k (0 + w)) (get_or last (0 + (k - 0)) 0) (get_or start k 0))
    → at w lines x 0 ≡ get_or last x 0
above_line w x last lines start column told =
    let none : w * 0 + x ≡ x = grind arith in
    let t : (nat_le 0 x && nat_lt x (0 + w)) ≡ true = grind (arith, nat_tests) in
    let place : 0 + (x - 0) ≡ x = omega arith in
    ap (λ (k : ℕ). get_or lines k 0) none ∙ cond_yes _ _ _ _ (told x) t ∙ ap (λ (k : ℕ). get_or last k 0) place

-- a row of coding tree blocks is a part of the plane
pub part_room : (w top end h n : ℕ) → top ≤ end → end ≤ h → n ≡ w * h → w * end ≤ n
part_room w top end h n low high is =
    let le : w * end ≤ w * h = mul-le-mul_left w high in
    omega (arith, le, is)

pub part_length : (w top end n : ℕ) → top ≤ end → n ≡ w * end - w * top → w * (end - top) ≡ n
part_length w top end n low is =
    let e = times_sum w top (end - top) in
    let f : top + (end - top) ≡ end = omega (arith, low) in
    let k : w * (top + (end - top)) ≡ w * end = ap (λ (m : ℕ). w * m) f in
    omega (arith, e, k, is)

-- a sample of the row, counted from its first line
pub part_sample : (w top end i j n : ℕ) (samples : List ℕ) → top ≤ end → i < w → j < end - top → n ≡ w * end - w * top
    → at w (take n (drop (w * top) samples)) i j ≡ at w samples i (top + j)
part_sample w top end i j n samples low column line is =
    let m = part_length w top end n low is in
    let below = line_below w j (end - top) line in
    let inside : w * j + i < n = omega (arith, m, below, column) in
    let e = times_sum w top j in
    get_or-take n (drop (w * top) samples) (w * j + i) 0 inside ∙ get_or-drop (w * top) samples (w * j + i) 0
    ∙ ap (λ (k : ℕ). get_or samples k 0) (omega (arith, e))

in_part : (w top end s h x y k : ℕ) → end ≡ min (top + s) h → top ≤ end → x < w → y < h → k ≡ w * end - w * top
    → (nat_le (w * top) (w * y + x) && nat_lt (w * y + x) (w * top + k)) ≡ (nat_le top y && nat_lt y (top + s))
in_part w top end s h x y k is low column line many =
    let m = part_length w top end k low many in
    let e = times_sum w top (end - top) in
    let f : top + (end - top) ≡ end = omega (arith, low) in
    let whole : w * (top + (end - top)) ≡ w * end = ap (λ (m : ℕ). w * m) f in
    elim (cases_lt y top) [
      | inl lt ↦
          let a = line_below w y top lt in
          grind (arith, nat_tests)
      | inr le ↦
          let a : w * top ≤ w * y = mul-le-mul_left w le in
          elim (cases_lt y end) [
            | inl less ↦ let b = line_below w y end less in grind (arith, nat_tests)
            | inr past ↦ let b : w * end ≤ w * y = mul-le-mul_left w past in grind (arith, nat_tests)
          ]
    ]

-- the plane after a row of it was written
pub row_written : (w top end s h k : ℕ) (samples out : List ℕ) (F : ℕ → ℕ → ℕ) (x y : ℕ) → end ≡ min (top + s) h
    → top < h → k ≡ w * end - w * top → length samples ≡ w * h → length out ≡ k
    → ((i j : ℕ) → i < w → j < end - top → at w out i j ≡ F i (top + j)) → x < w → y < h
    → at w (put_mid (w * top) k samples out) x y ≡ cond (nat_le top y && nat_lt y (top + s)) (F x y) (at w samples x y)
row_written w top end s h k samples out F x y is begins many count size value column line =
    let low : top ≤ end = omega (arith, is, begins) in
    let high : end ≤ h = omega (arith, is) in
    let fits = part_room w top end h (length samples) low high count in
    let more : w * top ≤ w * end = mul-le-mul_left w low in
    part_at (w * top) k samples out (w * y + x) (omega (arith, fits, many, more)) size
    ∙ cond_by _ _ _ _ _ refl (in_part w top end s h x y k is low column line many)
    ∙ cond_under (nat_le top y && nat_lt y (top + s)) _ _ _
    (λ (t : (nat_le top y && nat_lt y (top + s)) ≡ true).
    let a : top ≤ y = grind (arith, nat_tests) in
    let b : y < top + s = grind (arith, nat_tests) in
    let back : top + (y - top) ≡ y = omega (arith, a) in
    let e = times_sum w top (y - top) in
    let f : w * (top + (y - top)) ≡ w * y = ap (λ (m : ℕ). w * m) back in
    let place : w * y + x - w * top ≡ w * (y - top) + x = omega (arith, e, f) in
    ap (λ (q : ℕ). get_or out q 0) place ∙ value x (y - top) column (omega (arith, is, a, b, line))
    ∙ ap (λ (l : ℕ). F x l) back)

pub part_count : (w top end s h k : ℕ) (samples : List ℕ) → end ≡ min (top + s) h → top < h
    → k ≡ w * end - w * top → length samples ≡ w * h
    → w * min s (h - top) ≤ length (take k (drop (w * top) samples))
part_count w top end s h k samples is begins many count =
    let low : top ≤ end = omega (arith, is, begins) in
    let high : end ≤ h = omega (arith, is) in
    let fits = part_room w top end h (length samples) low high count in
    let more : w * top ≤ w * end = mul-le-mul_left w low in
    let size : length (take k (drop (w * top) samples)) ≡ k =
    length-take-le k (drop (w * top) samples) (omega (arith, length-drop (w * top) samples, fits, many, more)) in
    let m = part_length w top end k low many in
    let same : min s (h - top) ≡ end - top = omega (arith, is, begins) in
    let e : w * min s (h - top) ≡ w * (end - top) = ap (λ (n : ℕ). w * n) same in
    omega (arith, e, m, size)

pub row_lines_fit : (w top s h n : ℕ) → s ≤ 64 → w * 66 ≤ n → w * (min (top + s + 1) h - (top - 1)) ≤ n
row_lines_fit w top s h n few room =
    let le : w * (min (top + s + 1) h - (top - 1)) ≤ w * 66 = mul-le-mul_left w (omega (arith, few)) in
    omega (arith, le, room)
