-- Numbers that are read bit by bit.
use Rattle.std.proofs.Common.{◌≡◌, ℕ, zero, suc, ◌+◌, ◌*◌, ◌/◌, ◌^◌, ◌<◌, ◌≤◌, Bool, true, false, cond, Option, Some}
use Rattle.std.proofs.Common.{None, List, [], ◌∷◌, length, get_or, take, drop, refl, sym, ap, ◌∙◌, arith, add-one}
use Rattle.std.proofs.Common.{lit<}
use Rattle.std.proofs.Common.{length-drop}
use Rattle.std.proofs.lemmas.Option.{some_pair_parts}
use Rattle.std.specs.Prelude.{◌==◌, bit_and, nat_lt}
use mir.Val.{bool_byte}
use Rattle.std.proofs.Math.Nat.{pow-suc, pow-le-pow_right}
use Rattle.std.proofs.lemmas.Nat.Bits.{shr_and_one}
use Rattle.spec_bits.specs.Bits.{digit, bit_of, number_after, number_of, u_at}

-- the test of one bit
pub shr_and_one-bit_of : (byte k : ℕ) → (bit_and (byte / 2 ^ k) 1 == 1) ≡ bit_of byte k
unfolding bit_of
shr_and_one-bit_of byte k = ap (λ n. n == 1) (shr_and_one byte k)

pub two_pow-succ : (k : ℕ) → 2 ^ (k + 1) ≡ 2 * 2 ^ k
two_pow-succ k = let e : k + 1 ≡ suc k = add-one k in rw (e, pow-suc 2 k) (omega arith)

-- one more digit keeps a number below the next power
pub doubled_below : (n k : ℕ) (b : Bool) → n < 2 ^ k → 2 * n + digit b < 2 ^ (k + 1)
doubled_below n k true h = omega (arith, two_pow-succ k)
doubled_below n k false h = omega (arith, two_pow-succ k)

-- a number of fewer than 32 digits can be doubled in 32 bits
pub below_half : (n k : ℕ) → n < 2 ^ k → k < 32 → n < 2 ^ 31
below_half n k h small =
    let two : 0 < 2 = lit< tt in
    let le : k ≤ 31 = omega arith in
    omega (arith, pow-le-pow_right two le)

-- the value so far and the bits to come spell the whole
number_after-drop_suc : (n i : ℕ) (bs : List Bool) (d : Bool) → i < length bs
    → number_after n (drop i bs) ≡ number_after (2 * n + digit (get_or bs i d)) (drop (suc i) bs)
number_after-drop_suc n i [] d h = absurd (omega arith)
number_after-drop_suc n zero (b ∷ bs) d h = refl
number_after-drop_suc n (suc i) (b ∷ bs) d h = number_after-drop_suc n i bs d (omega arith)

pub number_after-drop : (n i : ℕ) (bs : List Bool) (d : Bool) → i < length bs
    → number_after n (drop i bs) ≡ number_after (2 * n + digit (get_or bs i d)) (drop (i + 1) bs)
number_after-drop n i bs d h =
    number_after-drop_suc n i bs d h
    ∙ ap (λ k. number_after (2 * n + digit (get_or bs i d)) (drop k bs)) (sym (add-one i))

-- a flag as a number is its digit
pub bool_byte-digit : (b : Bool) → bool_byte b ≡ digit b
bool_byte-digit true = refl
bool_byte-digit false = refl

rest_of_some : (short : Bool) (value y : ℕ) (rest after : List Bool)
    → cond {A = Option (ℕ × List Bool)} short None (Some (value, rest)) ≡ Some (y, after) → rest ≡ after
rest_of_some true value y rest after e = absurd cc
rest_of_some false value y rest after e = (some_pair_parts value y rest after e).1

-- reading leaves no more bits than there were
pub length-u_at : (n : ℕ) (before : List Bool) (y : ℕ) (after : List Bool) → u_at n before ≡ Some (y, after)
    → length after ≤ length before
unfolding u_at
length-u_at n before y after e =
    let is = rest_of_some (nat_lt (length before) n) (number_of (take n before)) y (drop n before) after e in
    omega (arith, length-drop n before, ap length is)
