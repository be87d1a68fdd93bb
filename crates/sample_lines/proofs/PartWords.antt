-- The words of a part of samples are words of the whole.
use Rattle.std.proofs.Common.{◌≡◌, ℕ, ◌+◌, ◌-◌, ◌*◌, ◌<◌, ◌≤◌, min, Bool, cond, inl, inr, List, length, get_or}
use Rattle.std.proofs.Common.{arith, ap, sym, ◌∙◌}
use Rattle.std.specs.List.{between}
use Rattle.std.proofs.lemmas.Bool.{cases_lt}
use Rattle.std.proofs.lemmas.List.{get_or_past}
use Rattle.std.proofs.lemmas.List.Edits.{get_or-between, length-between}
use Rattle.sample_words.specs.Packing.{lanes}
use Rattle.sample_lines.proofs.LineWords.{same_word}
use Rattle.sample_lines.proofs.Runs.{sample_before_end, sample_in_run}

-- a value of a part that ends where the list does, or behind this value
between_same : (xs : List ℕ) (a e q : ℕ) → e ≤ length xs → (e ≤ a + q → length xs ≤ a + q)
    → get_or (between a e xs) q 0 ≡ get_or xs (a + q) 0
between_same xs a e q inside past =
    let count = length-between xs a e inside in
    elim (cases_lt q (e - a)) [
      | inl less ↦ get_or-between xs a e q 0 (omega (arith, less))
      | inr more ↦
          get_or_past (between a e xs) q 0 (omega (arith, count, more))
          ∙ sym (get_or_past xs (a + q) 0 (past (omega (arith, more))))
    ]

-- values of a part are small where those of the list are
pub between_small : (xs : List ℕ) (a e bound : ℕ) → e ≤ length xs → 0 < bound
    → ((i : ℕ) → get_or xs i 0 < bound) → (i : ℕ) → get_or (between a e xs) i 0 < bound
between_small xs a e bound inside some small i =
    let count = length-between xs a e inside in
    elim (cases_lt i (e - a)) [
      | inl less ↦
          let is = get_or-between xs a e i 0 (omega (arith, less)) in
          let lt = small (a + i) in
          omega (arith, is, lt)
      | inr more ↦ let is = get_or_past (between a e xs) i 0 (omega (arith, count, more)) in omega (arith, is, some)
    ]

-- a word of a run of samples is one of all
pub word_in_all : (deep : Bool) (bits r k w a e : ℕ) (xs : List ℕ) → r ≡ cond deep 4 8 → a ≡ 16 * r * k
    → e ≡ min (length xs) (16 * r * k + 16 * r) → w < 16
    → lanes bits (cond deep 4 8) (λ j. get_or (between a e xs) (cond deep 4 8 * w + j) 0)
    ≡ lanes bits (cond deep 4 8) (λ j. get_or xs (cond deep 4 8 * (16 * k + w) + j) 0)
word_in_all deep bits r k w a e xs is from to few =
    let n : ℕ = cond deep 4 8 in
    let start : a ≡ 16 * n * k = from ∙ ap (λ (m : ℕ). 16 * m * k) is in
    let end : e ≡ min (length xs) (16 * n * k + 16 * n) =
    to ∙ ap (λ (m : ℕ). min (length xs) (16 * m * k + 16 * m)) is in
    same_word bits n (λ j. get_or (between a e xs) (n * w + j) 0) (λ j. get_or xs (n * (16 * k + w) + j) 0)
    (λ j less.
    let place : a + (n * w + j) ≡ n * (16 * k + w) + j =
    ap (λ (m : ℕ). m + (n * w + j)) start ∙ sym (sample_in_run deep k w j) in
    between_same xs a e (n * w + j) (omega (arith, end))
    (λ past.
    let behind = sample_before_end deep (length xs) k w j few less (omega (arith, past, start, end)) in
    omega (arith, behind, start))
    ∙ ap (λ (m : ℕ). get_or xs m 0) place)
