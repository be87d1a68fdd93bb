-- Samples by the depth of a flight.
use Rattle.std.proofs.Common.{◌≡◌, ℕ, ◌+◌, ◌-◌, ◌*◌, ◌^◌, ◌<◌, ◌&&◌, min, nat_le, nat_lt, Bool, true, false, cond}
use Rattle.std.proofs.Common.{List}
use Rattle.std.proofs.Common.{length, slice_index}
use Rattle.std.proofs.lemmas.Bool.{false≢true, true≢false}
use Rattle.sample_words.specs.Packing.{lane, lanes}

-- the word of so many samples, by the depth
abbrev pub word_by : Bool → List ℕ → ℕ → ℕ
word_by deep samples k = lanes (cond deep 16 8) (cond deep 4 8) (λ j. slice_index samples (cond deep 4 8 * k + j))

pub four_are : (deep : Bool) (samples : List ℕ) (k word : ℕ) → deep ≡ true
    → word ≡ lanes 16 4 (λ j. slice_index samples (4 * k + j)) → word ≡ word_by deep samples k
four_are true samples k word is e = e
four_are false samples k word is e = absurd (false≢true is)

pub eight_are : (deep : Bool) (samples : List ℕ) (k word : ℕ) → deep ≡ false
    → word ≡ lanes 8 8 (λ j. slice_index samples (8 * k + j)) → word ≡ word_by deep samples k
eight_are true samples k word is e = absurd (true≢false is)
eight_are false samples k word is e = e

pub bytes_are : (deep : Bool) (samples : List ℕ) → deep ≡ false → ((i : ℕ) → slice_index samples i < 2 ^ cond deep 16 8)
    → (i : ℕ) → slice_index samples i < 256
bytes_are true samples is fits = absurd (true≢false is)
bytes_are false samples is fits = fits

-- samples that are laid into a line, by the depth
abbrev pub AreLaid : Bool → ℕ → List ℕ → List ℕ → ℕ → Type 0
AreLaid deep word old new k =
    (i : ℕ) → slice_index new i
    ≡ cond (nat_le (cond deep 4 8 * k) i && nat_lt i (min (length old) (cond deep 4 8 * k + cond deep 4 8)))
    (lane (cond deep 16 8) word (i - cond deep 4 8 * k)) (slice_index old i)

pub four_are_laid : (deep : Bool) (word : ℕ) (old new : List ℕ) (k : ℕ) → deep ≡ true → AreLaid true word old new k
    → AreLaid deep word old new k
four_are_laid true word old new k is laid = laid
four_are_laid false word old new k is laid = absurd (false≢true is)

pub eight_are_laid : (deep : Bool) (word : ℕ) (old new : List ℕ) (k : ℕ) → deep ≡ false → AreLaid false word old new k
    → AreLaid deep word old new k
eight_are_laid true word old new k is laid = absurd (true≢false is)
eight_are_laid false word old new k is laid = laid
