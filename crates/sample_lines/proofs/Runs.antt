-- Runs of sixteen words of samples, one behind the other: run k has the samples from 16 * r * k to before its end,
-- where a word has r samples.
use Rattle.std.proofs.Common.{◌≡◌, ℕ, ◌+◌, ◌-◌, ◌*◌, ◌/◌, ◌%◌, ◌<◌, ◌≤◌, min, arith, ap, sym, ◌∙◌, subst}
use Rattle.std.proofs.Common.{Bool, true, false, cond, List, length, get_or}
use borrow.Rule.Slice.PartMut.{put_mid}
use Rattle.sample_words.specs.declared.sizes.FlightSizes.{FlightSizes}
use Rattle.sample_words.specs.Sizes.{covering, line_words, samples_a_word}
use Rattle.sample_lines.proofs.Parts.{part_length, part_told}

-- where a run ends
abbrev run_end : ℕ → ℕ → ℕ → ℕ
run_end n count k = min count (16 * n * k + 16 * n)

-- one that is begun has samples
begins : (deep : Bool) (count k : ℕ) → k < (count + (16 * cond deep 4 8 - 1)) / (16 * cond deep 4 8)
    → 16 * cond deep 4 8 * k < count
begins true count k less = omega (arith, less)
begins false count k less = omega (arith, less)

pub run_begins : (s : FlightSizes) (r k count : ℕ) → r ≡ samples_a_word s
    → k < (count + (16 * r - 1)) / (16 * r) → 16 * r * k < count
run_begins s r k count e =
    subst (λ (m : ℕ). k < (count + (16 * m - 1)) / (16 * m) → 16 * m * k < count) (sym e) (begins s.deep count k)

-- it begins before the last word
begins_before : (deep : Bool) (count k : ℕ) → 16 * cond deep 4 8 * k < count → 16 * k < covering (cond deep 4 8) count
begins_before true count k less = omega (arith, less)
begins_before false count k less = omega (arith, less)

pub run_starts : (s : FlightSizes) (r k count : ℕ) → r ≡ samples_a_word s
    → k < (count + (16 * r - 1)) / (16 * r) → 16 * k < line_words s count
unfolding line_words
run_starts s r k count e less =
    let some : 16 * samples_a_word s * k < count =
    subst (λ (m : ℕ). 16 * m * k < count) e (run_begins s r k count e less) in
    begins_before s.deep count k some

-- its words are among all, and sixteen at most
among_all : (deep : Bool) (count k : ℕ) → 16 * cond deep 4 8 * k < count
    → 16 * k + covering (cond deep 4 8) (run_end (cond deep 4 8) count k - 16 * cond deep 4 8 * k)
    ≤ covering (cond deep 4 8) count
among_all true count k less = omega (arith, less)
among_all false count k less = omega (arith, less)

sixteen_most : (deep : Bool) (count : ℕ) → count ≤ 16 * cond deep 4 8 → covering (cond deep 4 8) count ≤ 16
sixteen_most true count few = omega (arith, few)
sixteen_most false count few = omega (arith, few)

-- how many words are behind one more run, and behind the last
one_more : (deep : Bool) (count k : ℕ) → 16 * cond deep 4 8 * k < count
    → min (16 * k) (covering (cond deep 4 8) count)
    + covering (cond deep 4 8) (run_end (cond deep 4 8) count k - 16 * cond deep 4 8 * k)
    ≡ min (16 * (k + 1)) (covering (cond deep 4 8) count)
one_more true count k less = omega (arith, less)
one_more false count k less = omega (arith, less)

behind_last : (deep : Bool) (count : ℕ)
    → min (16 * ((count + (16 * cond deep 4 8 - 1)) / (16 * cond deep 4 8))) (covering (cond deep 4 8) count)
    ≡ covering (cond deep 4 8) count
behind_last true count = omega arith
behind_last false count = omega arith

-- the word of a sample of a run, and its place in the word
word_in_run : (deep : Bool) (k i : ℕ) → (16 * cond deep 4 8 * k + i) / cond deep 4 8 ≡ 16 * k + i / cond deep 4 8
word_in_run true k i = omega arith
word_in_run false k i = omega arith

lane_in_run : (deep : Bool) (k i : ℕ) → (16 * cond deep 4 8 * k + i) % cond deep 4 8 ≡ i % cond deep 4 8
lane_in_run true k i = omega arith
lane_in_run false k i = omega arith

-- sample j of word w of a run is one of all
pub sample_in_run : (deep : Bool) (k w j : ℕ)
    → cond deep 4 8 * (16 * k + w) + j ≡ 16 * cond deep 4 8 * k + (cond deep 4 8 * w + j)
sample_in_run true k w j = omega arith
sample_in_run false k w j = omega arith

-- where it isn't before the run's end it is behind the last sample
pub sample_before_end : (deep : Bool) (count k w j : ℕ) → w < 16 → j < cond deep 4 8
    → min count (16 * cond deep 4 8 * k + 16 * cond deep 4 8) ≤ 16 * cond deep 4 8 * k + (cond deep 4 8 * w + j)
    → count ≤ 16 * cond deep 4 8 * k + (cond deep 4 8 * w + j)
sample_before_end true count k w j few less past = omega (arith, few, less, past)
sample_before_end false count k w j few less past = omega (arith, few, less, past)

-- one more run of samples is laid: each by its word and its place there
module _ (deep : Bool) (r k end : ℕ) (e : r ≡ cond deep 4 8) (xs ys : List ℕ) (f : ℕ → ℕ → ℕ)
    (some : 16 * r * k < length xs) (is : end ≡ min (length xs) (16 * r * k + 16 * r))
    (count : length ys ≡ end - 16 * r * k) where
  pub run_length : length (put_mid (16 * r * k) (end - 16 * r * k) xs ys) ≡ length xs
  run_length = part_length (16 * r * k) (end - 16 * r * k) xs ys (omega (arith, some, is)) count

  pub run_told : ((i : ℕ) → i < length xs → i < 16 * r * k → get_or xs i 0 ≡ f (i / cond deep 4 8) (i % cond deep 4 8))
      → ((i : ℕ) → i < length ys → get_or ys i 0 ≡ f (16 * k + i / cond deep 4 8) (i % cond deep 4 8))
      → (i : ℕ) → i < length xs → i < 16 * r * (k + 1)
      → get_or (put_mid (16 * r * k) (end - 16 * r * k) xs ys) i 0 ≡ f (i / cond deep 4 8) (i % cond deep 4 8)
  run_told before told i inside less =
      let n : ℕ = cond deep 4 8 in
      let more : 16 * r * (k + 1) ≡ 16 * r * k + 16 * r = omega arith in
      part_told (16 * r * k) (end - 16 * r * k) xs ys (λ j. f (j / n) (j % n)) (omega (arith, some))
      (λ j lt. before j (omega (arith, lt, some)) lt)
      (λ j lt.
      let word : (16 * r * k + j) / n ≡ 16 * k + j / n =
      ap (λ (m : ℕ). (16 * m * k + j) / n) e ∙ word_in_run deep k j in
      let lane : (16 * r * k + j) % n ≡ j % n =
      ap (λ (m : ℕ). (16 * m * k + j) % n) e ∙ lane_in_run deep k j in
      told j lt ∙ λ i. f (sym word i) (sym lane i))
      i (omega (arith, inside, less, more, is, count, some))

-- one more run of words is written
module _ (s : FlightSizes) (r k end count : ℕ) (e : r ≡ samples_a_word s) (some : 16 * r * k < count)
    (is : end ≡ min count (16 * r * k + 16 * r)) where
  begun : 16 * samples_a_word s * k < count
  begun = subst (λ (m : ℕ). 16 * m * k < count) e some

  size_is : end - 16 * r * k ≡ run_end (samples_a_word s) count k - 16 * samples_a_word s * k
  size_is = ap (λ (n : ℕ). n - 16 * r * k) is ∙ ap (λ (m : ℕ). run_end m count k - 16 * m * k) e

  pub run_before : 16 * k < line_words s count
  unfolding line_words
  run_before = begins_before s.deep count k begun

  pub run_within : 16 * k + line_words s (end - 16 * r * k) ≤ line_words s count
  unfolding line_words
  run_within =
      subst (λ (n : ℕ). 16 * k + covering (samples_a_word s) n ≤ covering (samples_a_word s) count) (sym size_is)
      (among_all s.deep count k begun)

  pub run_words : min (16 * k) (line_words s count) + line_words s (end - 16 * r * k)
      ≡ min (16 * (k + 1)) (line_words s count)
  unfolding line_words
  run_words =
      ap (λ (n : ℕ). min (16 * k) (covering (samples_a_word s) count) + covering (samples_a_word s) n) size_is
      ∙ one_more s.deep count k begun

  pub run_few : line_words s (end - 16 * r * k) ≤ 16
  unfolding line_words
  run_few =
      subst (λ (n : ℕ). covering (samples_a_word s) n ≤ 16) (sym size_is)
      (sixteen_most s.deep (run_end (samples_a_word s) count k - 16 * samples_a_word s * k) (omega arith))

-- all words are behind the last run
pub runs_all : (s : FlightSizes) (r count : ℕ) → r ≡ samples_a_word s
    → min (16 * ((count + (16 * r - 1)) / (16 * r))) (line_words s count) ≡ line_words s count
unfolding line_words
runs_all s r count e =
    ap (λ (m : ℕ). min (16 * ((count + (16 * m - 1)) / (16 * m))) (covering (samples_a_word s) count)) e
    ∙ behind_last s.deep count
