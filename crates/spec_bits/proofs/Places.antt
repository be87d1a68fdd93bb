-- The bits of a byte string by their places.
use Rattle.std.proofs.Common.{◌≡◌, ℕ, suc, ◌+◌, ◌-◌, ◌*◌, ◌/◌, ◌%◌, ◌<◌, Bool, false, List, ◌∷◌, length, get_or, drop}
use Rattle.std.proofs.Common.{sym, ap, ◌∙◌, arith, add-one, zero-add, drop-cons}
use Rattle.std.specs.Prelude.{slice_index}
use Rattle.std.proofs.lemmas.List.FromFn.{length-map-range_with_len, get_or-map-range_with_len}
use Rattle.spec_bits.specs.Bits.{bit_of, bits}

pub length-bits : (bytes : List ℕ) → length (bits bytes) ≡ 8 * length bytes
unfolding bits
length-bits bytes = length-map-range_with_len (λ i. bit_of (slice_index bytes (i / 8)) (7 - i % 8)) 0 (8 * length bytes)

div-eight : (byte bit : ℕ) → bit < 8 → (8 * byte + bit) / 8 ≡ byte
div-eight byte bit h = omega arith

mod-eight : (byte bit : ℕ) → bit < 8 → (8 * byte + bit) % 8 ≡ bit
mod-eight byte bit h = omega arith

get_or-bits : (bytes : List ℕ) (byte bit : ℕ) → bit < 8 → byte < length bytes
    → get_or (bits bytes) (8 * byte + bit) false ≡ bit_of (slice_index bytes byte) (7 - bit)
unfolding bits
get_or-bits bytes byte bit low inside =
    let f : ℕ → Bool = λ i. bit_of (slice_index bytes (i / 8)) (7 - i % 8) in
    let at =
    get_or-map-range_with_len f 0 (8 * length bytes) (8 * byte + bit) (8 * byte + bit) false (omega arith)
    (zero-add (8 * byte + bit)) in
    at ∙ ap (λ i. bit_of (slice_index bytes i) (7 - (8 * byte + bit) % 8)) (div-eight byte bit low)
    ∙ ap (λ i. bit_of (slice_index bytes byte) (7 - i)) (mod-eight byte bit low)

-- the next bit at a place, and those after it
pub drop-bits : (bytes : List ℕ) (byte bit : ℕ) → bit < 8 → byte < length bytes
    → drop (8 * byte + bit) (bits bytes)
    ≡ bit_of (slice_index bytes byte) (7 - bit) ∷ drop (8 * byte + bit + 1) (bits bytes)
drop-bits bytes byte bit low inside =
    let within : 8 * byte + bit < length (bits bytes) = omega (arith, length-bits bytes) in
    drop-cons (bits bytes) (8 * byte + bit) false within
    ∙ ap (λ b. b ∷ drop (suc (8 * byte + bit)) (bits bytes)) (get_or-bits bytes byte bit low inside)
    ∙ ap (λ k. bit_of (slice_index bytes byte) (7 - bit) ∷ drop k (bits bytes)) (sym (add-one (8 * byte + bit)))

-- the same at a place that is told by one number
pub drop-bits_at : (bytes : List ℕ) (i : ℕ) → i < 8 * length bytes
    → drop i (bits bytes) ≡ bit_of (slice_index bytes (i / 8)) (7 - i % 8) ∷ drop (i + 1) (bits bytes)
unfolding bits
drop-bits_at bytes i inside =
    let within : i < length (bits bytes) = omega (arith, length-bits bytes) in
    let f : ℕ → Bool = λ k. bit_of (slice_index bytes (k / 8)) (7 - k % 8) in
    drop-cons (bits bytes) i false within
    ∙ ap (λ b. b ∷ drop (suc i) (bits bytes))
    (get_or-map-range_with_len f 0 (8 * length bytes) i i false inside (zero-add i))
    ∙ ap (λ k. bit_of (slice_index bytes (i / 8)) (7 - i % 8) ∷ drop k (bits bytes)) (sym (add-one i))
