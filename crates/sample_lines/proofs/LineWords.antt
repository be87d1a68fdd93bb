-- The words of samples of a line, by how many samples a word has.
use Rattle.std.proofs.Common.{◌≡◌, refl, ℕ, zero, suc, ◌+◌, ◌*◌, ◌/◌, ◌%◌, ◌^◌, ◌<◌, ◌≤◌, arith}
use Rattle.std.proofs.Common.{Bool, true, false, cond}
use Rattle.sample_words.specs.Packing.{lanes}
use Rattle.sample_words.specs.Sizes.{covering}

-- the word of a sample of a line is one of the line's
pub word_of_line : (deep : Bool) (width word i : ℕ) → cond deep 4 8 * word + i < width
    → word + i / cond deep 4 8 < covering (cond deep 4 8) width
word_of_line true width word i less = omega (arith, less)
word_of_line false width word i less = omega (arith, less)

pub sample_of_word : (deep : Bool) (word i : ℕ)
    → cond deep 4 8 * (word + i / cond deep 4 8) + i % cond deep 4 8 ≡ cond deep 4 8 * word + i
sample_of_word true word i = omega arith
sample_of_word false word i = omega arith

-- the words of so many samples from a word of a line on are the line's
pub words_of_part : (deep : Bool) (width word count : ℕ) → cond deep 4 8 * word + count ≤ width
    → word + covering (cond deep 4 8) count ≤ covering (cond deep 4 8) width
words_of_part true width word count inside = omega (arith, inside)
words_of_part false width word count inside = omega (arith, inside)

pub few_before : (deep : Bool) (word count : ℕ) → cond deep 4 8 * word + count ≤ 8192 → word ≤ 8192
few_before true word count few = omega (arith, few)
few_before false word count few = omega (arith, few)

-- samples have words, and none have none
pub some_words : (deep : Bool) (count : ℕ) → 0 < count → 0 < covering (cond deep 4 8) count
some_words true count some = omega (arith, some)
some_words false count some = omega (arith, some)

pub words_of_none : (deep : Bool) (count : ℕ) → count ≡ 0 → covering (cond deep 4 8) count ≡ 0
words_of_none true count none = omega (arith, none)
words_of_none false count none = omega (arith, none)

-- a sample that there is room for has its word
pub word_in_room : (deep : Bool) (count words i : ℕ) → count ≤ cond deep 4 8 * words → i < count
    → i / cond deep 4 8 < words
word_in_room true count words i room less = omega (arith, room, less)
word_in_room false count words i room less = omega (arith, room, less)

-- equal samples give equal words
pub same_word : (bits n : ℕ) (f g : ℕ → ℕ) → ((j : ℕ) → j < n → f j ≡ g j) → lanes bits n f ≡ lanes bits n g
unfolding lanes
same_word bits zero f g same = refl
same_word bits (suc n) f g same =
    let rest : lanes bits n (λ k. f (k + 1)) ≡ lanes bits n (λ k. g (k + 1)) =
    same_word bits n (λ k. f (k + 1)) (λ k. g (k + 1)) (λ j less. same (j + 1) (omega (arith, less))) in
    λ i. same 0 (omega arith) i + 2 ^ bits * rest i
