-- Places of a list of which a part was written.
use Rattle.std.proofs.Common.{◌≡◌, ℕ, ◌+◌, ◌-◌, ◌*◌, ◌<◌, ◌≤◌, ◌&&◌, cond, nat_le, nat_lt, List, slice_set, inl, inr}
use Rattle.std.proofs.Common.{length, take, drop, ap, ◌∙◌, arith}
use Rattle.std.specs.List.{All}
use Rattle.std.proofs.lemmas.Grind.{common_steps}
use Rattle.std.proofs.lemmas.Bool.{cases_lt}
use Rattle.std.proofs.lemmas.Bool.Decides.{nat_tests}
use Rattle.std.proofs.lemmas.List.{get_or-take, get_or-drop, get_or-append_right, get_or_append_left, length-take-le}
use Rattle.std.proofs.lemmas.List.Elements.{All-append, All-take, All-drop}
use borrow.Rule.Slice.PartMut.{put_mid}
use Rattle.inter_pred.specs.Passes.{at}

before_part : (a k : ℕ) (xs ys : List ℕ) (q : ℕ) → a ≤ length xs → q < a → at (put_mid a k xs ys) q ≡ at xs q
before_part a k xs ys q room lt =
    let e : length (take a xs) ≡ a = length-take-le a xs room in
    get_or_append_left (take a xs) _ 0 q (omega (arith, e)) ∙ get_or-take a xs q 0 lt

in_part : (a k : ℕ) (xs ys : List ℕ) (q : ℕ) → a ≤ length xs → a ≤ q → q < a + length ys
    → at (put_mid a k xs ys) q ≡ at ys (q - a)
in_part a k xs ys q room le lt =
    get_or-append_right (take a xs) _ a q 0 (length-take-le a xs room) le
    ∙ get_or_append_left ys _ 0 (q - a) (omega arith)

behind_part : (a k : ℕ) (xs ys : List ℕ) (q : ℕ) → a ≤ length xs → length ys ≡ k → a + k ≤ q
    → at (put_mid a k xs ys) q ≡ at xs q
behind_part a k xs ys q room e le =
    let place : a + (k + (q - a - k)) ≡ q = omega arith in
    get_or-append_right (take a xs) _ a q 0 (length-take-le a xs room) (omega arith)
    ∙ get_or-append_right ys _ k (q - a) 0 e (omega arith)
    ∙ get_or-drop k (drop a xs) (q - a - k) 0
    ∙ get_or-drop a xs (k + (q - a - k)) 0
    ∙ ap (λ (n : ℕ). at xs n) place

-- a part of w places that was written from a on, each as s has it
pub part_laid : (a w k : ℕ) (xs ys : List ℕ) (s : ℕ → ℕ) → a + w ≤ length xs → length ys ≡ k → k ≡ w
    → ((i : ℕ) → i < w → at ys i ≡ s i)
    → (q : ℕ) → at (put_mid a k xs ys) q ≡ cond (nat_le a q && nat_lt q (a + w)) (s (q - a)) (at xs q)
part_laid a w k xs ys s room e kw told q = elim (cases_lt q a) [
  | inl lt ↦ let t = before_part a k xs ys q (omega arith) lt in grind (arith, nat_tests)
  | inr le ↦ elim (cases_lt q (a + w)) [
    | inl lt ↦
        let t = in_part a k xs ys q (omega arith) le (omega (arith, e)) in
        let s = told (q - a) (omega arith) in grind (arith, nat_tests)
    | inr past ↦ let t = behind_part a k xs ys q (omega arith) e (omega (arith, kw)) in grind (arith, nat_tests)
  ]
]

pub part_all : (P : ℕ → Type 0) (a k : ℕ) (xs ys : List ℕ) → All P xs → All P ys → All P (put_mid a k xs ys)
part_all P a k xs ys old new =
    All-append P (take a xs) _ (All-take P a xs old)
    (All-append P ys _ new (All-drop P k (drop a xs) (All-drop P a xs old)))

-- one more line of the window
pub line_laid : (width j i k : ℕ) (before now : List ℕ) (s : ℕ → ℕ → ℕ) → i < width → width ≤ 71 → k < j + 1
    → ((q : ℕ) → at now q ≡ cond (nat_le (72 * j) q && nat_lt q (72 * j + width)) (s (q - 72 * j) j) (at before q))
    → ((i k : ℕ) → i < width → k < j → at before (72 * k + i) ≡ s i k)
    → at now (72 * k + i) ≡ s i k
line_laid width j i k before now s l m n told old =
    let t = told (72 * k + i) in
    let o = old i k l in
    grind (arith, nat_tests)

-- one more place of a line
pub set_laid : (from k v : ℕ) (first before : List ℕ) (s : ℕ → ℕ) → from + k < length before → v ≡ s (from + k) →
    ((q : ℕ) → at before q ≡ cond (nat_le from q && nat_lt q (from + k)) (s q) (at first q)) →
    (q : ℕ)
    → at (slice_set before (from + k) v) q ≡ cond (nat_le from q && nat_lt q (from + (k + 1))) (s q) (at first q)
set_laid from k v first before s room e told q =
    let t = told q in
    grind (arith, common_steps, nat_tests)
