-- Lines of samples are taken out of their words as they were put in.
use Rattle.std.proofs.Common.{◌≡◌, ℕ, ◌+◌, ◌*◌, ◌/◌, ◌%◌, ◌^◌, ◌<◌, ◌≤◌}
use Rattle.std.proofs.Common.{Bool, true, false, cond, List, length, slice_index, ap, ◌∙◌, arith}
use Rattle.std.proofs.Math.Nat.{div-lt_iff_lt-mul, mul_comm}
use Rattle.sample_words.specs.Packing.{lane, lanes}
use Rattle.sample_words.proofs.Fields.{lane_found}

-- a word has some samples
pub some_a_word : (deep : Bool) → 0 < cond deep 4 8
some_a_word true = omega arith
some_a_word false = omega arith

pub taken_again : (bits n : ℕ) (words samples : List ℕ) (count : ℕ) → 0 < n → count ≤ n * length words
    → ((i : ℕ) → i < count → slice_index samples i ≡ lane bits (slice_index words (i / n)) (i % n))
    → (f : ℕ → ℕ) → ((k : ℕ) → f k < 2 ^ bits)
    → ((k : ℕ) → k < length words → slice_index words k ≡ lanes bits n (λ j. f (n * k + j)))
    → (i : ℕ) → i < count → slice_index samples i ≡ f i
taken_again bits n words samples count some room told f fits are i below =
    let m = mul_comm n (length words) in
    let inside : i / n < length words = (div-lt_iff_lt-mul some).1 (omega (arith, m)) in
    let rest : i % n < n = omega arith in
    let same : n * (i / n) + i % n ≡ i = omega arith in
    told i below ∙ ap (λ (w : ℕ). lane bits w (i % n)) (are (i / n) inside)
    ∙ lane_found bits n (λ j. f (n * (i / n) + j)) (i % n) (λ k. fits (n * (i / n) + k)) rest ∙ ap f same
