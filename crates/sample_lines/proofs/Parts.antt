-- Lists of which a part was written.
use Rattle.std.proofs.Common.{◌≡◌, ℕ, ◌+◌, ◌-◌, ◌*◌, ◌<◌, ◌≤◌, arith, ap, sym, ◌∙◌}
use Rattle.std.proofs.Common.{List, ◌++◌, length, take, drop, get_or, length-append, length-drop, inl, inr}
use Rattle.std.proofs.lemmas.Bool.{cases_lt}
use Rattle.std.proofs.lemmas.List.{get_or-take, get_or-drop, get_or-append_right, get_or_append_left, length-take-le}
use Rattle.std.proofs.Math.Nat.{mul-le-mul_left}
use borrow.Rule.Slice.PartMut.{put_mid}

before_part : (a k : ℕ) (xs ys : List ℕ) (q : ℕ) → a ≤ length xs → q < a
    → get_or (put_mid a k xs ys) q 0 ≡ get_or xs q 0
before_part a k xs ys q room lt =
    let e : length (take a xs) ≡ a = length-take-le a xs room in
    get_or_append_left (take a xs) _ 0 q (omega (arith, e)) ∙ get_or-take a xs q 0 lt

in_part : (a k : ℕ) (xs ys : List ℕ) (q : ℕ) → a ≤ length xs → a ≤ q → q < a + length ys
    → get_or (put_mid a k xs ys) q 0 ≡ get_or ys (q - a) 0
in_part a k xs ys q room le lt =
    get_or-append_right (take a xs) _ a q 0 (length-take-le a xs room) le
    ∙ get_or_append_left ys _ 0 (q - a) (omega arith)

-- the values before a place are told, and those of a part from there on were written
pub part_told : (a k : ℕ) (xs ys : List ℕ) (value : ℕ → ℕ) → a ≤ length xs
    → ((i : ℕ) → i < a → get_or xs i 0 ≡ value i) → ((i : ℕ) → i < length ys → get_or ys i 0 ≡ value (a + i))
    → (i : ℕ) → i < a + length ys → get_or (put_mid a k xs ys) i 0 ≡ value i
part_told a k xs ys value room before told i less = elim (cases_lt i a) [
  | inl lt ↦ before_part a k xs ys i room lt ∙ before i lt
  | inr le ↦
      let e : a + (i - a) ≡ i = omega (arith, le) in
      in_part a k xs ys i room le less ∙ (told (i - a) (omega (arith, le, less)) ∙ ap value e)
]

pub part_length : (a k : ℕ) (xs ys : List ℕ) → a + k ≤ length xs → length ys ≡ k
    → length (put_mid a k xs ys) ≡ length xs
part_length a k xs ys room e =
    let t : length (take a xs) ≡ a = length-take-le a xs (omega (arith, room)) in
    let d = length-drop a xs in
    let r = length-drop k (drop a xs) in
    let s = length-append (take a xs) (ys ++ drop k (drop a xs)) in
    let u = length-append ys (drop k (drop a xs)) in
    omega (arith, room, e, t, d, r, s, u)

behind_part : (a k : ℕ) (xs ys : List ℕ) (q : ℕ) → a ≤ length xs → length ys ≡ k → a + k ≤ q
    → get_or (put_mid a k xs ys) q 0 ≡ get_or xs q 0
behind_part a k xs ys q room e le =
    let place : a + (k + (q - a - k)) ≡ q = omega (arith, le) in
    get_or-append_right (take a xs) _ a q 0 (length-take-le a xs room) (omega (arith, le))
    ∙ get_or-append_right ys _ k (q - a) 0 e (omega (arith, le))
    ∙ get_or-drop k (drop a xs) (q - a - k) 0
    ∙ get_or-drop a xs (k + (q - a - k)) 0
    ∙ ap (λ (n : ℕ). get_or xs n 0) place

-- a line of a picture ends before the next one begins
pub line_before : (stride j y : ℕ) → j < y → stride * j + stride ≤ stride * y
line_before stride j y less =
    let le : stride * (j + 1) ≤ stride * y = mul-le-mul_left stride (omega (arith, less)) in
    let e : stride * (j + 1) ≡ stride * j + stride = omega arith in
    omega (arith, le, e)

-- one more line of a block is laid, of which these are the first column and the width, in the place of k values from a
-- on
module _ (stride left width y a k : ℕ) (xs ys : List ℕ) (is : a ≡ stride * y + left) (size : k ≡ width)
    (inside : left + width ≤ stride) (room : stride * y + stride ≤ length xs) (count : length ys ≡ width) where
  pub line_length : length (put_mid a k xs ys) ≡ length xs
  line_length = part_length a k xs ys (omega (arith, is, size, inside, room)) (omega (arith, size, count))

  pub line_told : (value : ℕ → ℕ → ℕ)
      → ((x j : ℕ) → x < width → j < y → get_or xs (stride * j + (left + x)) 0 ≡ value x j)
      → ((x : ℕ) → x < width → get_or ys x 0 ≡ value x y)
      → (x j : ℕ) → x < width → j < y + 1
      → get_or (put_mid a k xs ys) (stride * j + (left + x)) 0 ≡ value x j
  line_told value before told x j column line = elim (cases_lt j y) [
    | inl lt ↦
        let le = line_before stride j y lt in
        before_part a k xs ys (stride * j + (left + x)) (omega (arith, is, inside, room))
        (omega (arith, is, le, inside, column)) ∙ before x j column lt
    | inr le ↦
        let same : j ≡ y = omega (arith, le, line) in
        let place : stride * j + (left + x) ≡ stride * y + (left + x) =
        ap (λ (n : ℕ). stride * n + (left + x)) same in
        let offset : stride * j + (left + x) - a ≡ x = omega (arith, is, place) in
        in_part a k xs ys (stride * j + (left + x)) (omega (arith, is, inside, room))
        (omega (arith, is, place)) (omega (arith, is, place, column, count))
        ∙ (ap (λ (n : ℕ). get_or ys n 0) offset ∙ (told x column ∙ ap (value x) (sym same)))
  ]

  -- the columns before it stay
  pub line_kept : (x j : ℕ) → x < left → get_or (put_mid a k xs ys) (stride * j + x) 0 ≡ get_or xs (stride * j + x) 0
  line_kept x j column = elim (cases_lt y j) [
    | inl more ↦
        let le = line_before stride y j more in
        behind_part a k xs ys (stride * j + x) (omega (arith, is, inside, room)) (omega (arith, size, count))
        (omega (arith, is, size, le, inside))
    | inr less ↦
        let le : stride * j ≤ stride * y = mul-le-mul_left stride less in
        before_part a k xs ys (stride * j + x) (omega (arith, is, inside, room)) (omega (arith, is, le, column))
  ]
