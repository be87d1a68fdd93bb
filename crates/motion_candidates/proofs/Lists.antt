-- Lists of candidates and of references.
use Rattle.std.proofs.Common.{◌≡◌, ℕ, ◌<◌, ◌≤◌, min, List, [], ◌∷◌, ◌++◌, length, take, filter_map, Option}
use Rattle.std.proofs.Common.{option_to_list, sym, ap, ◌∙◌, append_assoc, append-nil, inl, inr, arith}
use Rattle.std.proofs.lemmas.Bool.{cases_lt}
use Rattle.std.proofs.lemmas.Bool.Decides.{nat_tests}
use Rattle.std.proofs.lemmas.List.{take_all}
use Rattle.spec_motion.specs.declared.vectors.Motion.{Motion}
use Rattle.spec_motion.specs.Merging.{present, spatial_of, unless_same}

-- so many of a list of n, and no more than n
pub take_few : {X : Type 0} (xs : List X) (a n : ℕ) → length xs ≡ n → take (min a n) xs ≡ take a xs
take_few xs a n count = elim (cases_lt a n) [
  | inl lt ↦ ap (λ k. take k xs) (omega arith)
  | inr le ↦ take_all (min a n) xs (omega arith) ∙ sym (take_all a xs (omega arith))
]

-- four that are there, one after the other
pub four_present : (a b c d : Option Motion)
    → ((([] ++ option_to_list a) ++ option_to_list b) ++ option_to_list c) ++ option_to_list d
    ≡ present (a ∷ b ∷ c ∷ d ∷ [])
four_present a b c d = simp (append_assoc, append-nil)

pub five : (a1 b1 b0 a0 b2 w : Option Motion) (four all : List Motion)
    → four ≡ present (a1 ∷ unless_same b1 a1 ∷ unless_same b0 b1 ∷ unless_same a0 a1 ∷ []) → length four < 4
    → w ≡ unless_same (unless_same b2 a1) b1 → all ≡ four ++ option_to_list w → all ≡ spatial_of a1 b1 b0 a0 b2
unfolding spatial_of
five a1 b1 b0 a0 b2 w four all is few e told = rw (sym is, told, e) (grind (arith, nat_tests))

pub without_fifth : (a1 b1 b0 a0 b2 : Option Motion) (four : List Motion)
    → four ≡ present (a1 ∷ unless_same b1 a1 ∷ unless_same b0 b1 ∷ unless_same a0 a1 ∷ []) → 4 ≤ length four
    → length four ≤ 4
    → four ≡ spatial_of a1 b1 b0 a0 b2
unfolding spatial_of
without_fifth a1 b1 b0 a0 b2 four is full few =
    let e : length four ≡ 4 = omega arith in rw (sym is, e) (sym (append-nil four))

-- so many of a list of n, where so many are its first ones
pub taken_few : {X Y : Type 0} (h : X → Option Y) (xs : List X) (a n k : ℕ) → length xs ≡ n → k ≡ min a n
    → filter_map h (take k xs) ≡ filter_map h (take a xs)
taken_few h xs a n k count is = ap (λ ys. filter_map h ys) (rw is (take_few xs a n count))
