-- Bins one after the other.
use Rattle.std.proofs.Common.{◌≡◌, ℕ, zero, suc, ◌+◌, ◌-◌, ◌<◌, ◌≤◌, true, List, [], ◌∷◌, ◌++◌, replicate, refl, sym}
use Rattle.std.proofs.Common.{ap, ◌∙◌, arith, append_assoc}
use Rattle.spec_bits.specs.Bits.{bit_of}
use Rattle.spec_bits.specs.Spelling.{u_bits}
use Rattle.spec_cabac.specs.Bins.{Bypass}
use Rattle.cabac_writer.specs.Coding.{Writing, with_word, with_words}
use Rattle.spec_made.specs.Written.{Bins}
use Rattle.spec_made.specs.Bends.{bare_words}
use Rattle.spec_made.specs.InterRows.{bypasses, end_words, words_at, words_from}
use Rattle.spec_made.specs.declared.units.InterUnit.{InterUnit}
use Rattle.spec_made.specs.declared.units.Motion.{Motion}

pub with_words_append : (s : Writing) (front back : Bins) → with_words s (front ++ back)
    ≡ with_words (with_words s front) back
with_words_append s [] back = refl
with_words_append s (w ∷ front) back = with_words_append (with_word s w) front back

-- some bins, and then others
pub then_words : (s t u : Writing) (front back : Bins) → t ≡ with_words s front → u ≡ with_words t back
    → u ≡ with_words s (front ++ back)
then_words s t u front back e f =
    f ∙ ap (λ r. with_words r back) e ∙ sym (with_words_append s front back)

-- a unit, and what follows it
pub words_at_append : (s : Writing) (m : Motion) (units : List InterUnit) (i : ℕ) → with_words s (words_at m units i)
    ≡ with_words (with_words s (bare_words m units i)) (end_words i)
unfolding words_at bare_words
words_at_append s m units i = with_words_append s (bare_words m units i) (end_words i)

-- one of so many ones
pub ones_step : (s next whole : Writing) (i n : ℕ) → i < n → next ≡ with_word s (Bypass, true)
    → with_words s (bypasses (replicate (n - i) true)) ≡ whole
    → with_words next (bypasses (replicate (n - (i + 1)) true)) ≡ whole
ones_step s next whole i n inside is told =
    let m : n - i ≡ suc (n - (i + 1)) = omega arith in
    ap (λ t. with_words t (bypasses (replicate (n - (i + 1)) true))) is
    ∙ sym (ap (λ k. with_words s (bypasses (replicate k true))) m) ∙ told

-- one of so many digits
pub digits_step : (s next whole : Writing) (i n value : ℕ) → i < n
    → next ≡ with_word s (Bypass, bit_of value (n - 1 - i))
    → with_words s (bypasses (u_bits (n - i) value)) ≡ whole
    → with_words next (bypasses (u_bits (n - (i + 1)) value)) ≡ whole
unfolding u_bits
digits_step s next whole i n value inside is told =
    let m : n - i ≡ suc (n - (i + 1)) = omega arith in
    let k : n - 1 - i ≡ n - (i + 1) = omega arith in
    ap (λ t. with_words t (bypasses (u_bits (n - (i + 1)) value)))
    (is ∙ ap (λ j. with_word s (Bypass, bit_of value j)) k)
    ∙ sym (ap (λ j. with_words s (bypasses (u_bits j value))) m) ∙ told

pub none_left : (s whole : Writing) (i n value : ℕ) → n ≤ i → with_words s (bypasses (u_bits (n - i) value)) ≡ whole
    → s ≡ whole
unfolding u_bits
none_left s whole i n value past told =
    let z : n - i ≡ 0 = omega arith in
    sym (ap (λ j. with_words s (bypasses (u_bits j value))) z) ∙ told

pub no_ones_left : (s whole : Writing) (i n : ℕ) → n ≤ i → with_words s (bypasses (replicate (n - i) true)) ≡ whole
    → s ≡ whole
no_ones_left s whole i n past told =
    let z : n - i ≡ 0 = omega arith in
    sym (ap (λ j. with_words s (bypasses (replicate j true))) z) ∙ told

pub all_ones : (s : Writing) (n : ℕ)
    → with_words s (bypasses (replicate (n - 0) true)) ≡ with_words s (bypasses (replicate n true))
all_ones s n =
    let z : n - 0 ≡ n = omega arith in ap (λ k. with_words s (bypasses (replicate k true))) z

pub all_digits : (s : Writing) (n value : ℕ)
    → with_words s (bypasses (u_bits (n - 0) value)) ≡ with_words s (bypasses (u_bits n value))
all_digits s n value = let z : n - 0 ≡ n = omega arith in ap (λ k. with_words s (bypasses (u_bits k value))) z

-- ---- units one after the other

words_later : (m : Motion) (units : List InterUnit) (i a b : ℕ)
    → words_from m units i (a + b) ≡ words_from m units i a ++ words_from m units (i + a) b
unfolding words_from
words_later m units i zero b =
    let e : i ≡ i + 0 = omega arith in
    let z : 0 + b ≡ b = omega arith in
    ap (λ k. words_from m units i k) z ∙ ap (λ k. words_from m units k b) e
words_later m units i (suc a) b =
    let e : i + 1 + a ≡ i + suc a = omega arith in
    let z : suc a + b ≡ suc (a + b) = omega arith in
    ap (λ k. words_from m units i k) z
    ∙ ap (λ l. words_at m units i ++ l) (words_later m units (i + 1) a b)
    ∙ sym (append_assoc (words_at m units i) (words_from m units (i + 1) a) (words_from m units (i + 1 + a) b))
    ∙ ap (λ k. (words_at m units i ++ words_from m units (i + 1) a) ++ words_from m units k b) e

-- two units of a row, and then the other six
pub row_words : (s : Writing) (m : Motion) (units : List InterUnit) (i : ℕ)
    → with_words (with_words s (words_from m units i 2)) (words_from m units (i + 2) 6)
    ≡ with_words s (words_from m units i 8)
row_words s m units i =
    sym (with_words_append s (words_from m units i 2) (words_from m units (i + 2) 6))
    ∙ ap (with_words s) (sym (words_later m units i 2 6))

-- two units, then five, and the last without what follows it
pub row_front : (s : Writing) (m : Motion) (units : List InterUnit) (i : ℕ)
    → with_words (with_words s (words_from m units i 2)) (words_from m units (i + 2) 5)
    ≡ with_words s (words_from m units i 7)
row_front s m units i =
    sym (with_words_append s (words_from m units i 2) (words_from m units (i + 2) 5))
    ∙ ap (with_words s) (sym (words_later m units i 2 5))

pub none_from : (m : Motion) (units : List InterUnit) (s whole : Writing) (first k n : ℕ) → n ≤ k
    → with_words s (words_from m units (first + k) (n - k)) ≡ whole → s ≡ whole
unfolding words_from
none_from m units s whole first k n past told =
    let z : n - k ≡ 0 = omega arith in
    sym (ap (λ j. with_words s (words_from m units (first + k) j)) z) ∙ told

pub all_from : (m : Motion) (units : List InterUnit) (s : Writing) (first n : ℕ)
    → with_words s (words_from m units (first + 0) (n - 0)) ≡ with_words s (words_from m units first n)
all_from m units s first n =
    let e : first + 0 ≡ first = omega arith in
    let z : n - 0 ≡ n = omega arith in
    ap (λ i. with_words s (words_from m units i (n - 0))) e ∙ ap (λ k. with_words s (words_from m units first k)) z

pub from_step : (m : Motion) (units : List InterUnit) (s next whole : Writing) (first k n : ℕ) → k < n
    → next ≡ with_words s (words_at m units (first + k))
    → with_words s (words_from m units (first + k) (n - k)) ≡ whole
    → with_words next (words_from m units (first + (k + 1)) (n - (k + 1))) ≡ whole
unfolding words_from
from_step m units s next whole first k n inside is told =
    let e : first + (k + 1) ≡ first + k + 1 = omega arith in
    let z : n - k ≡ suc (n - (k + 1)) = omega arith in
    ap (λ i. with_words next (words_from m units i (n - (k + 1)))) e
    ∙ ap (λ t. with_words t (words_from m units (first + k + 1) (n - (k + 1)))) is
    ∙ sym (with_words_append s (words_at m units (first + k)) (words_from m units (first + k + 1) (n - (k + 1))))
    ∙ sym (ap (λ j. with_words s (words_from m units (first + k) j)) z) ∙ told

-- bytes that are appended one after the other
pub appended : (a b c : List ℕ) → (a ++ b) ++ c ≡ a ++ (b ++ c)
appended a b c = append_assoc a b c
