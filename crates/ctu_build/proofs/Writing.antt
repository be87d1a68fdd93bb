-- A list of which a part was written over.
use Rattle.std.proofs.Common.{◌≡◌, ℕ, ◌+◌, ◌-◌, ◌<◌, ◌≤◌, ◌&&◌, cond, nat_le, nat_lt, List, inl, inr, length, get_or}
use Rattle.std.proofs.Common.{slice_set, take, drop, true, ap, ◌∙◌, arith}
use Rattle.std.specs.List.{between}
use Rattle.std.proofs.lemmas.Bool.{cases_lt}
use Rattle.std.proofs.lemmas.Grind.{common_steps}
use Rattle.std.proofs.lemmas.Bool.Decides.{nat_tests}
use Rattle.std.proofs.lemmas.List.Edits.{get_or-between, length-between}
use Rattle.std.proofs.lemmas.List.{get_or-take, get_or-drop, get_or-append_right, get_or_append_left, length-take-le}
use borrow.Rule.Slice.PartMut.{put_mid}

before_part : (a k : ℕ) (xs ys : List ℕ) (q : ℕ) → a ≤ length xs → q < a
    → get_or (put_mid a k xs ys) q 0 ≡ get_or xs q 0
before_part a k xs ys q room lt =
    let e : length (take a xs) ≡ a = length-take-le a xs room in
    get_or_append_left (take a xs) _ 0 q (omega (arith, e)) ∙ get_or-take a xs q 0 lt

in_part : (a k : ℕ) (xs ys : List ℕ) (q : ℕ) → a ≤ length xs → a ≤ q → q < a + length ys
    → get_or (put_mid a k xs ys) q 0 ≡ get_or ys (q - a) 0
in_part a k xs ys q room le lt =
    get_or-append_right (take a xs) _ a q 0 (length-take-le a xs room) le
    ∙ get_or_append_left ys _ 0 (q - a) (omega arith)

behind_part : (a k : ℕ) (xs ys : List ℕ) (q : ℕ) → a ≤ length xs → length ys ≡ k → a + k ≤ q
    → get_or (put_mid a k xs ys) q 0 ≡ get_or xs q 0
behind_part a k xs ys q room e le =
    let place : a + (k + (q - a - k)) ≡ q = omega arith in
    get_or-append_right (take a xs) _ a q 0 (length-take-le a xs room) (omega arith)
    ∙ get_or-append_right ys _ k (q - a) 0 e (omega arith)
    ∙ get_or-drop k (drop a xs) (q - a - k) 0
    ∙ get_or-drop a xs (k + (q - a - k)) 0
    ∙ ap (λ (n : ℕ). get_or xs n 0) place

-- its elements
written_at : (a k : ℕ) (xs ys : List ℕ) (q : ℕ) → a + k ≤ length xs → length ys ≡ k
    → get_or (put_mid a k xs ys) q 0 ≡ cond (nat_le a q && nat_lt q (a + k)) (get_or ys (q - a) 0) (get_or xs q 0)
written_at a k xs ys q room e = elim (cases_lt q a) [
  | inl lt ↦ let t = before_part a k xs ys q (omega arith) lt in grind (arith, nat_tests)
  | inr le ↦ elim (cases_lt q (a + k)) [
    | inl lt ↦ let t = in_part a k xs ys q (omega arith) le (omega (arith, e)) in grind (arith, nat_tests)
    | inr past ↦ let t = behind_part a k xs ys q (omega arith) e past in grind (arith, nat_tests)
  ]
]

-- where the part is a list, and where it is a part of one
pub part_at : (a k n : ℕ) (xs ys zs : List ℕ) (q : ℕ) → a + n ≤ length xs → k ≡ n → length zs ≡ n → ys ≡ zs
    → get_or (put_mid a k xs ys) q 0 ≡ cond (nat_le a q && nat_lt q (a + n)) (get_or zs (q - a) 0) (get_or xs q 0)
part_at a k n xs ys zs q room many e same =
    ap (λ (m : ℕ). get_or (put_mid a m xs ys) q 0) many
    ∙ ap (λ (l : List ℕ). get_or (put_mid a n xs l) q 0) same
    ∙ written_at a n xs zs q room e

pub block_at : (a k n from : ℕ) (xs ys block : List ℕ) (q : ℕ) → a + n ≤ length xs → from + n ≤ length block → k ≡ n
    → ys ≡ between from (from + n) block
    → get_or (put_mid a k xs ys) q 0
    ≡ cond (nat_le a q && nat_lt q (a + n)) (get_or block (from + (q - a)) 0) (get_or xs q 0)
block_at a k n from xs ys block q room enough many same =
    let count : length (between from (from + n) block) ≡ n =
    length-between block from (from + n) enough ∙ omega arith in
    let t = part_at a k n xs ys (between from (from + n) block) q room many count same in
    let inside : (nat_le a q && nat_lt q (a + n)) ≡ true
    → get_or (between from (from + n) block) (q - a) 0 ≡ get_or block (from + (q - a)) 0 =
    λ is. get_or-between block from (from + n) (q - a) 0 (grind (arith, nat_tests)) in
    grind (arith, nat_tests)

-- one more sum of a list
pub sums_more : (k v : ℕ) (sums : List ℕ) (f : ℕ → ℕ) → k < length sums → v ≡ f k
    → ((j : ℕ) → j < k → get_or sums j 0 ≡ f j)
    → (j : ℕ) → j < k + 1 → get_or (slice_set sums k v) j 0 ≡ f j
sums_more k v sums f room is told j lt = let t = told j in grind (arith, common_steps, nat_tests)

-- sums that stand in a list of their own, laid over the part
pub sums_at : (first n q new old : ℕ) (sums : List ℕ) (f : ℕ → ℕ → ℕ)
    → ((j : ℕ) → j < n → get_or sums j 0 ≡ f (first + j) j)
    → new ≡ cond (nat_le first q && nat_lt q (first + n)) (get_or sums (0 + (q - first)) 0) old
    → new ≡ cond (nat_le first q && nat_lt q (first + n)) (f q (q - first)) old
sums_at first n q new old sums f told laid = elim (cases_lt q first) [
  | inl lt ↦ grind (arith, nat_tests)
  | inr le ↦ let place : first + (q - first) ≡ q = omega arith in
      let there : f (first + (q - first)) (q - first) ≡ f q (q - first) = ap (λ (p : ℕ). f p (q - first)) place in
      let t = told (q - first) in
      grind (arith, nat_tests)
]
