-- Samples laid over a part of a row.
use Rattle.std.proofs.Common.{rules, ◌≡◌, ℕ, ◌+◌, ◌-◌, ◌*◌, ◌<◌, ◌≤◌, ◌==◌, ◌&&◌, cond, nat_le, nat_lt, List, inl}
use Rattle.std.proofs.Common.{inr}
use Rattle.std.proofs.Common.{length, get_or, take, drop, Vec, ap, ◌∙◌, arith}
use Rattle.std.proofs.lemmas.Bool.{cases_lt}
use Rattle.std.proofs.lemmas.Bool.Decides.{nat_tests}
use Rattle.std.proofs.lemmas.Slice.{overwrites}
use Rattle.std.proofs.lemmas.List.{get_or-take, get_or-drop, get_or-append_right, get_or_append_left, length-take-le}
use Rattle.std.proofs.lemmas.List.{with_items_is}
use Rattle.std.specs.Vec.{with_items}
use Rattle.std.proofs.Math.Nat.{mul-le-mul_left}
use borrow.Rule.Slice.PartMut.{put_mid}
use Rattle.picture_buffer.specs.Planes.{plane_at}

before_part : (a k : ℕ) (xs ys : List ℕ) (q : ℕ) → a ≤ length xs → q < a
    → get_or (put_mid a k xs ys) q 0 ≡ get_or xs q 0
before_part a k xs ys q room lt =
    let e : length (take a xs) ≡ a = length-take-le a xs room in
    get_or_append_left (take a xs) _ 0 q (omega (arith, e)) ∙ get_or-take a xs q 0 lt

in_part : (a k : ℕ) (xs ys : List ℕ) (q : ℕ) → a ≤ length xs → a ≤ q → q < a + length ys
    → get_or (put_mid a k xs ys) q 0 ≡ get_or ys (q - a) 0
in_part a k xs ys q room le lt =
    get_or-append_right (take a xs) _ a q 0 (length-take-le a xs room) le
    ∙ get_or_append_left ys _ 0 (q - a) (omega arith)

behind_part : (a k : ℕ) (xs ys : List ℕ) (q : ℕ) → a ≤ length xs → length ys ≡ k → a + k ≤ q
    → get_or (put_mid a k xs ys) q 0 ≡ get_or xs q 0
behind_part a k xs ys q room e le =
    let place : a + (k + (q - a - k)) ≡ q = omega arith in
    get_or-append_right (take a xs) _ a q 0 (length-take-le a xs room) (omega arith)
    ∙ get_or-append_right ys _ k (q - a) 0 e (omega arith)
    ∙ get_or-drop k (drop a xs) (q - a - k) 0
    ∙ get_or-drop a xs (k + (q - a - k)) 0
    ∙ ap (λ (n : ℕ). get_or xs n 0) place

-- a list's elements after a part was written over
pub part_at : (a k : ℕ) (xs ys : List ℕ) (q : ℕ) → a + k ≤ length xs → length ys ≡ k
    → get_or (put_mid a k xs ys) q 0 ≡ cond (nat_le a q && nat_lt q (a + k)) (get_or ys (q - a) 0) (get_or xs q 0)
part_at a k xs ys q room e = elim (cases_lt q a) [
  | inl lt ↦ let t = before_part a k xs ys q (omega arith) lt in grind (arith, nat_tests)
  | inr le ↦ elim (cases_lt q (a + k)) [
    | inl lt ↦ let t = in_part a k xs ys q (omega arith) le (omega (arith, e)) in grind (arith, nat_tests)
    | inr past ↦ let t = behind_part a k xs ys q (omega arith) e past in grind (arith, nat_tests)
  ]
]

-- a row begins where the row above ends
row_below : (n a b : ℕ) → a < b → n * a + n ≤ n * b
row_below n a b lt = let le : n * (a + 1) ≤ n * b = mul-le-mul_left n (omega arith) in grind arith

-- what is laid into a row leaves the others
pub laid_at : (width height x y k : ℕ) (before samples : List ℕ) → length before ≡ width * height
    → x + length samples ≤ width → y < height → k ≡ length samples
    → (i j : ℕ)
    → plane_at (record { width = width; height = height; samples = put_mid (width * y + x) k before samples }) i j
    ≡ cond (j == y && (nat_le x i && nat_lt i (x + length samples))) (get_or samples (i - x) 0)
    (plane_at (record { width = width; height = height; samples = before }) i j)
unfolding plane_at
laid_at width height x y k before samples count columns row e i j =
    let room = row_below width y height row in
    let t = part_at (width * y + x) k before samples (width * j + i) (omega (arith, e, count)) (omega (arith, e)) in
    let above = row_below width j y in
    let below = row_below width y j in
    grind (arith, nat_tests)

put_length : (a k : ℕ) (xs ys : List ℕ) → a + k ≤ length xs → length ys ≡ k → length (put_mid a k xs ys) ≡ length xs
put_length a k xs ys room e = search (rules, overwrites)

-- the same of a vector's samples
pub laid_in : {Z : Type 0} (width height x y k : ℕ) (v : Vec ℕ Z) (before samples : List ℕ) → before ≡ v.items
    → length before ≡ v.len → length v.items ≡ width * height → x + length samples ≤ width → y < height
    → k ≡ length samples
    → (i j : ℕ) → plane_at
    (record {
      width = width;
      height = height;
      samples = (with_items v (put_mid (width * y + x) k before samples)).items;
    })
    i j
    ≡ cond (j == y && (nat_le x i && nat_lt i (x + length samples))) (get_or samples (i - x) 0)
    (plane_at (record { width = width; height = height; samples = v.items }) i j)
laid_in width height x y k v before samples same len count columns row e =
    let room = row_below width y height row in
    let all = put_length (width * y + x) k before samples (omega (arith, e, count)) (omega (arith, e)) in
    rw (with_items_is v (put_mid (width * y + x) k before samples) (all ∙ len), same)
    (laid_at width height x y k v.items samples count columns row e)
