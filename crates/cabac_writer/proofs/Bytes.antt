-- The number that bytes spell, where one byte changes or is added.
use Rattle.std.proofs.Common.{◌≡◌, ℕ, suc, ◌+◌, ◌-◌, ◌*◌, ◌^◌, ◌<◌, ◌≤◌, List, [], ◌∷◌, ◌++◌, length, take, drop}
use Rattle.std.proofs.Common.{sym, ap, subst, ◌∙◌, arith, set, get_or, length-drop}
use Rattle.std.proofs.Math.Nat.{add-mul}
use Rattle.std.proofs.lemmas.Nat.{pow-add}
use Rattle.std.proofs.lemmas.List.{set_split, drop_more, take-append-drop, get_or_read}
use Rattle.spec_bits.specs.Bits.{bits, number_of}
use Rattle.spec_bits.specs.Spelling.{u_bits}
use Rattle.spec_bits.proofs.Places.{length-bits}
use Rattle.spec_bits.proofs.Bytes.{bits-append, bits-cons, bits-nil}
use Rattle.spec_bits.proofs.Digits.{number_of-append, number_of-u_bits}

pub number_nil : number_of (bits []) ≡ 0
unfolding number_of
number_nil = ap number_of bits-nil

number_cons : (byte : ℕ) (bytes : List ℕ) → byte < 256
    → number_of (bits (byte ∷ bytes)) ≡ byte * 2 ^ (8 * length bytes) + number_of (bits bytes)
number_cons byte bytes small =
    ap number_of (bits-cons byte bytes) ∙ number_of-append (u_bits 8 byte) (bits bytes)
    ∙ ap (λ n. n * 2 ^ length (bits bytes) + number_of (bits bytes)) (number_of-u_bits 8 byte small)
    ∙ ap (λ k. byte * 2 ^ k + number_of (bits bytes)) (length-bits bytes)

pub number_append : (front back : List ℕ)
    → number_of (bits (front ++ back)) ≡ number_of (bits front) * 2 ^ (8 * length back) + number_of (bits back)
number_append front back =
    ap number_of (bits-append front back) ∙ number_of-append (bits front) (bits back)
    ∙ ap (λ k. number_of (bits front) * 2 ^ k + number_of (bits back)) (length-bits back)

-- a byte behind others
pub number_push : (bytes : List ℕ) (byte : ℕ) → byte < 256
    → number_of (bits (bytes ++ byte ∷ [])) ≡ number_of (bits bytes) * 256 + byte
number_push bytes byte small =
    let e : number_of (bits (byte ∷ [])) ≡ byte = omega (arith, number_cons byte [] small, number_nil) in
    number_append bytes (byte ∷ []) ∙ ap (λ n. number_of (bits bytes) * 256 + n) e

-- a byte between others
number_middle : (front : List ℕ) (byte : ℕ) (back : List ℕ) → byte < 256
    → number_of (bits (front ++ byte ∷ back))
    ≡ number_of (bits front) * 2 ^ (8 * suc (length back)) + (byte * 2 ^ (8 * length back) + number_of (bits back))
number_middle front byte back small =
    number_append front (byte ∷ back)
    ∙ ap (λ n. number_of (bits front) * 2 ^ (8 * suc (length back)) + n) (number_cons byte back small)

split_at : (xs : List ℕ) (i : ℕ) → i < length xs → xs ≡ take i xs ++ get_or xs i 0 ∷ drop (suc i) xs
split_at xs i inside =
    let e : i + 1 ≡ suc i = omega arith in
    sym (take-append-drop i xs) ∙ ap (λ l. take i xs ++ l) (drop_more xs i 0 inside)
    ∙ ap (λ k. take i xs ++ get_or xs i 0 ∷ drop k xs) e

-- another byte at a place
pub number_set : (xs : List ℕ) (i v : ℕ) → i < length xs → get_or xs i 0 < 256 → v < 256
    → number_of (bits (set xs i v)) + get_or xs i 0 * 2 ^ (8 * (length xs - suc i))
    ≡ number_of (bits xs) + v * 2 ^ (8 * (length xs - suc i))
number_set xs i v inside old new =
    let rest : List ℕ = drop (suc i) xs in
    let was =
    ap (λ l. number_of (bits l)) (split_at xs i inside) ∙ number_middle (take i xs) (get_or xs i 0) rest old in
    let is = ap (λ l. number_of (bits l)) (set_split xs i v inside) ∙ number_middle (take i xs) v rest new in
    let count : length rest ≡ length xs - suc i = length-drop (suc i) xs in
    ap (λ k. number_of (bits (set xs i v)) + get_or xs i 0 * 2 ^ (8 * k)) (sym count)
    ∙ (let e : number_of (bits (set xs i v)) + get_or xs i 0 * 2 ^ (8 * length rest)
    ≡ number_of (bits xs) + v * 2 ^ (8 * length rest) = omega (arith, was, is) in e)
    ∙ ap (λ k. number_of (bits xs) + v * 2 ^ (8 * k)) count

-- a carry that stands at a place goes on to the byte before it, or ends there
power_before : (n at : ℕ) → 0 < at → at ≤ n → 2 ^ (8 * (n - (at - 1))) ≡ 256 * 2 ^ (8 * (n - at))
power_before n at some inside =
    let e : 8 * (n - (at - 1)) ≡ 8 + 8 * (n - at) = omega arith in
    ap (λ k. 2 ^ k) e ∙ pow-add 2 8 (8 * (n - at))

pub carried : (xs : List ℕ) (at n : ℕ) → 0 < at → at ≤ length xs → get_or xs (at - 1) 0 ≡ 255
    → number_of (bits xs) + 2 ^ (8 * (length xs - at)) ≡ n
    → number_of (bits (set xs (at - 1) 0)) + 2 ^ (8 * (length xs - (at - 1))) ≡ n
carried xs at n some inside full so_far =
    let s = number_set xs (at - 1) 0 (omega arith) (omega (arith, full)) (omega arith) in
    let e : length xs - suc (at - 1) ≡ length xs - at = omega arith in
    let t : number_of (bits (set xs (at - 1) 0)) + 255 * 2 ^ (8 * (length xs - at))
    ≡ number_of (bits xs) + 0 * 2 ^ (8 * (length xs - at)) =
    rw (← full, ← e) s in
    omega (arith, t, so_far, power_before (length xs) at some inside)

pub raised : (xs : List ℕ) (at n : ℕ) → 0 < at → at ≤ length xs → get_or xs (at - 1) 0 < 255
    → number_of (bits xs) + 2 ^ (8 * (length xs - at)) ≡ n
    → number_of (bits (set xs (at - 1) (get_or xs (at - 1) 0 + 1))) ≡ n
raised xs at n some inside low so_far =
    let b : ℕ = get_or xs (at - 1) 0 in
    let s = number_set xs (at - 1) (b + 1) (omega arith) (omega arith) (omega arith) in
    let e : length xs - suc (at - 1) ≡ length xs - at = omega arith in
    let t : number_of (bits (set xs (at - 1) (b + 1))) + b * 2 ^ (8 * (length xs - at))
    ≡ number_of (bits xs) + (b + 1) * 2 ^ (8 * (length xs - at)) =
    rw (← e) s in
    omega (arith, t, so_far, add-mul b 1 (2 ^ (8 * (length xs - at))))

-- the same of a byte that was read there, in bytes of so many
pub carried_on : (xs : List ℕ) (at n size byte : ℕ) → length xs ≡ size → 0 < at → at ≤ length xs
    → byte ≡ get_or xs (at - 1) byte → 255 ≤ byte → byte < 256
    → number_of (bits xs) + 2 ^ (8 * (size - at)) ≡ n
    → number_of (bits (set xs (at - 1) 0)) + 2 ^ (8 * (size - (at - 1))) ≡ n
carried_on xs at n size byte same some inside read high fits so_far =
    let full : get_or xs (at - 1) 0 ≡ 255 =
    sym (get_or_read xs (at - 1) byte (omega arith) read 0) ∙ (let e : byte ≡ 255 = omega arith in e) in
    subst (λ (k : ℕ). number_of (bits (set xs (at - 1) 0)) + 2 ^ (8 * (k - (at - 1))) ≡ n) same
    (carried xs at n some inside full (rw same so_far))

pub raised_there : (xs : List ℕ) (at n size byte : ℕ) → length xs ≡ size → 0 < at → at ≤ length xs
    → byte ≡ get_or xs (at - 1) byte → byte < 255
    → number_of (bits xs) + 2 ^ (8 * (size - at)) ≡ n
    → number_of (bits (set xs (at - 1) (byte + 1))) ≡ n
raised_there xs at n size byte same some inside read low so_far =
    let is : byte ≡ get_or xs (at - 1) 0 = get_or_read xs (at - 1) byte (omega arith) read 0 in
    rw is (raised xs at n some inside (subst (λ (b : ℕ). b < 255) is low) (rw same so_far))
