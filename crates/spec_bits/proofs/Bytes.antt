-- The bits of byte strings by their bytes, and of numbers that are cut.
use Rattle.std.proofs.Common.{◌≡◌, ℕ, zero, suc, ◌+◌, ◌-◌, ◌*◌, ◌/◌, ◌%◌, ◌^◌, ◌<◌, ◌≤◌, Bool, List, [], ◌∷◌, ◌++◌}
use Rattle.std.proofs.Common.{length, get_or, take, drop, refl, sym, ap, ◌∙◌, arith, zero-add}
use Rattle.std.specs.Prelude.{slice_index, ◌==◌}
use Rattle.std.specs.Int.{bit_at, byte_at, bytes_high_first}
use Rattle.std.proofs.Math.Nat.{pow-suc, div-one}
use Rattle.std.proofs.lemmas.Nat.{pow-add, shr-shr, shr_split}
use Rattle.std.proofs.lemmas.Nat.Bits.{bit_at_cat_low}
use Rattle.std.proofs.lemmas.List.{append_assoc, take-append-drop, take_at, length-take-le, length-drop, get_or-drop}
use Rattle.std.proofs.lemmas.List.{same_lists}
use Rattle.std.proofs.lemmas.List.FromFn.{get_or-map-range_with_len, take-map-range_with_len}
use Rattle.spec_bits.specs.Bits.{bit_of, bits}
use Rattle.spec_bits.specs.Spelling.{u_bits}
use Rattle.spec_bits.proofs.Places.{length-bits}

pub get_or-bits_at : (bytes : List ℕ) (i : ℕ) (d : Bool) → i < 8 * length bytes
    → get_or (bits bytes) i d ≡ bit_of (slice_index bytes (i / 8)) (7 - i % 8)
unfolding bits
get_or-bits_at bytes i d inside =
    get_or-map-range_with_len (λ k. bit_of (slice_index bytes (k / 8)) (7 - k % 8)) 0 (8 * length bytes) i i
    d inside (zero-add i)

first_byte : (byte : ℕ) (bytes : List ℕ) → take 8 (bits (byte ∷ bytes)) ≡ u_bits 8 byte
unfolding bits u_bits
first_byte byte bytes =
    take-map-range_with_len (λ k. bit_of (slice_index (byte ∷ bytes) (k / 8)) (7 - k % 8)) 0
    (8 * length (byte ∷ bytes)) 8 (omega arith)

later_bit : (byte : ℕ) (bytes : List ℕ) (i : ℕ) (d : Bool) → i < 8 * length bytes
    → get_or (drop 8 (bits (byte ∷ bytes))) i d ≡ get_or (bits bytes) i d
later_bit byte bytes i d inside =
    let byte_at : (8 + i) / 8 ≡ suc (i / 8) = omega arith in
    let bit_at : (8 + i) % 8 ≡ i % 8 = omega arith in
    get_or-drop 8 (bits (byte ∷ bytes)) i d ∙ get_or-bits_at (byte ∷ bytes) (8 + i) d (omega arith)
    ∙ ap (λ k. bit_of (slice_index (byte ∷ bytes) k) (7 - (8 + i) % 8)) byte_at
    ∙ ap (λ k. bit_of (slice_index bytes (i / 8)) (7 - k)) bit_at
    ∙ sym (get_or-bits_at bytes i d inside)

pub bits-cons : (byte : ℕ) (bytes : List ℕ) → bits (byte ∷ bytes) ≡ u_bits 8 byte ++ bits bytes
bits-cons byte bytes =
    let count : length (drop 8 (bits (byte ∷ bytes))) ≡ 8 * length bytes =
    omega (arith, length-drop 8 (bits (byte ∷ bytes)), length-bits (byte ∷ bytes)) in
    let later =
    same_lists (drop 8 (bits (byte ∷ bytes))) (bits bytes) (omega (arith, count, length-bits bytes))
    (λ k d h. later_bit byte bytes k d (omega (arith, count))) in
    sym (take-append-drop 8 (bits (byte ∷ bytes))) ∙ ap (λ x. x ++ drop 8 (bits (byte ∷ bytes))) (first_byte byte bytes)
    ∙ ap (λ x. u_bits 8 byte ++ x) later

pub bits-nil : bits [] ≡ []
unfolding bits
bits-nil = refl

pub bits-append : (front back : List ℕ) → bits (front ++ back) ≡ bits front ++ bits back
bits-append [] back = ap (λ x. x ++ bits back) (sym bits-nil)
bits-append (byte ∷ front) back =
    bits-cons byte (front ++ back) ∙ ap (λ x. u_bits 8 byte ++ x) (bits-append front back)
    ∙ sym (append_assoc (u_bits 8 byte) (bits front) (bits back))
    ∙ ap (λ x. x ++ bits back) (sym (bits-cons byte front))

-- the bits of some bytes from the first on
pub take-bits : (k : ℕ) (bytes : List ℕ) → k ≤ length bytes → take (8 * k) (bits bytes) ≡ bits (take k bytes)
take-bits k bytes enough =
    let count : length (bits (take k bytes)) ≡ 8 * k =
    omega (arith, length-bits (take k bytes), length-take-le k bytes enough) in
    ap (λ x. take (8 * k) (bits x)) (sym (take-append-drop k bytes))
    ∙ ap (take (8 * k)) (bits-append (take k bytes) (drop k bytes))
    ∙ take_at (bits (take k bytes)) (bits (drop k bytes)) (8 * k) count

-- ---- the digits of a number in parts

bit_of-add : (a b value : ℕ) → bit_of value (a + b) ≡ bit_of (value / 2 ^ b) a
unfolding bit_of
bit_of-add a b value =
    let e : a + b ≡ b + a = omega arith in
    ap (λ k. value / 2 ^ k % 2 == 1) e ∙ ap (λ q. q % 2 == 1) (sym (shr-shr value b a))

pub u_bits-add : (a b value : ℕ) → u_bits (a + b) value ≡ u_bits a (value / 2 ^ b) ++ u_bits b value
unfolding u_bits
u_bits-add zero b value = ap (λ k. u_bits k value) (zero-add b)
u_bits-add (suc a) b value =
    let e : suc a + b ≡ suc (a + b) = omega arith in
    ap (λ k. u_bits k value) e ∙ ap (λ x. x ∷ u_bits (a + b) value) (bit_of-add a b value)
    ∙ ap (λ x. bit_of (value / 2 ^ b) a ∷ x) (u_bits-add a b value)

bit_of-mod : (value k i : ℕ) → i < k → bit_of (value % 2 ^ k) i ≡ bit_of value i
unfolding bit_of
bit_of-mod value k i low =
    ap (λ r. r == 1)
    (sym (bit_at_cat_low (value / 2 ^ k) k (value % 2 ^ k) i low) ∙ ap (λ n. bit_at n i) (shr_split value k))

pub u_bits-mod : (n k value : ℕ) → n ≤ k → u_bits n (value % 2 ^ k) ≡ u_bits n value
unfolding u_bits
u_bits-mod zero k value h = refl
u_bits-mod (suc n) k value h =
    ap (λ x. x ∷ u_bits n (value % 2 ^ k)) (bit_of-mod value k n (omega arith))
    ∙ ap (λ x. bit_of value n ∷ x) (u_bits-mod n k value (omega arith))

power_of_bytes : (k : ℕ) → 256 ^ k ≡ 2 ^ (8 * k)
power_of_bytes zero = refl
power_of_bytes (suc k) =
    let e : 8 * suc k ≡ 8 * k + 8 = omega arith in
    pow-suc 256 k ∙ ap (λ p. p * 256) (power_of_bytes k) ∙ sym (ap (λ n. 2 ^ n) e ∙ pow-add 2 (8 * k) 8)

byte_at-is : (k value : ℕ) → byte_at k value ≡ value / 2 ^ (8 * k) % 2 ^ 8
byte_at-is zero value = ap (λ n. n % 256) (sym (div-one value))
byte_at-is (suc k) value = ap (λ p. value / p % 256) (power_of_bytes (suc k))

none : (value : ℕ) → [] ≡ u_bits 0 value
unfolding u_bits
none value = refl

-- the bits of a number's bytes are its digits
pub bits-bytes_high_first : (k value : ℕ) → bits (bytes_high_first k value) ≡ u_bits (8 * k) value
bits-bytes_high_first zero value = bits-nil ∙ none value
bits-bytes_high_first (suc k) value =
    let e : 8 * suc k ≡ 8 + 8 * k = omega arith in
    bits-cons (byte_at k value) (bytes_high_first k value)
    ∙ ap (λ b. u_bits 8 b ++ bits (bytes_high_first k value)) (byte_at-is k value)
    ∙ ap (λ x. x ++ bits (bytes_high_first k value)) (u_bits-mod 8 8 (value / 2 ^ (8 * k)) (omega arith))
    ∙ ap (λ x. u_bits 8 (value / 2 ^ (8 * k)) ++ x) (bits-bytes_high_first k value)
    ∙ sym (ap (λ n. u_bits n value) e ∙ u_bits-add 8 (8 * k) value)
