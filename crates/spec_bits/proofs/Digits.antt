-- The binary digits of a number, and the number that they spell.
use Rattle.std.proofs.Common.{◌≡◌, ℕ, zero, suc, ◌+◌, ◌*◌, ◌/◌, ◌%◌, ◌^◌, ◌<◌, ◌≤◌, Bool, true, false, cond, Option}
use Rattle.std.proofs.Common.{Some, None, List, [], ◌∷◌, ◌++◌, length, replicate, take, drop, refl, sym, ap, subst}
use Rattle.std.proofs.Common.{◌∙◌}
use Rattle.std.proofs.Common.{arith}
use Rattle.std.specs.Prelude.{◌==◌, nat_lt, ◌↔◌}
use Rattle.std.proofs.Math.Nat.{pow-suc, add-mul, mul_assoc, div-one, div-lt_iff_lt-mul, mod-eq_of_lt}
use Rattle.std.proofs.lemmas.Nat.{pow_pos, shr-shr, mod-pow-add}
use Rattle.std.proofs.lemmas.List.{take_at, drop_at, length-append, length-take-le, take-append-drop}
use Rattle.std.proofs.lemmas.Bool.{ltb-false, le-ltb, lt-ltb}
use Rattle.std.proofs.lemmas.Option.{none-some, some_pair_parts}
use Rattle.std.proofs.lemmas.Nat.Bits.{bit_at-zero}
use Rattle.spec_bits.specs.Bits.{digit, bit_of, number_after, number_of, u_at, flag_at}
use Rattle.spec_bits.specs.Spelling.{u_bits}

pub length-u_bits : (n value : ℕ) → length (u_bits n value) ≡ n
unfolding u_bits
length-u_bits zero value = refl
length-u_bits (suc n) value = ap suc (length-u_bits n value)

pub u_bits-zero : (n : ℕ) → u_bits n 0 ≡ replicate n false
unfolding u_bits bit_of
u_bits-zero zero = refl
u_bits-zero (suc n) = rw (bit_at-zero n, u_bits-zero n) refl

-- a digit of 2 is 1 or isn't
digit_below_two : (r : ℕ) → r < 2 → digit (r == 1) ≡ r
digit_below_two zero h = refl
digit_below_two (suc zero) h = refl
digit_below_two (suc (suc r)) h = absurd (omega arith)

digit-bit_of : (value k : ℕ) → digit (bit_of value k) ≡ value / 2 ^ k % 2
unfolding bit_of
digit-bit_of value k = digit_below_two (value / 2 ^ k % 2) (omega arith)

-- the digits below 2^(n + 1) are digit n and those below it
mod_digit : (value n : ℕ) → value % 2 ^ (suc n) ≡ digit (bit_of value n) * 2 ^ n + value % 2 ^ n
mod_digit value n =
    let e : suc n ≡ 1 + n = omega arith in
    rw (e, digit-bit_of value n) (mod-pow-add value 1 n)

-- one more digit before the last n
more_digit : (before d p r : ℕ) → (2 * before + d) * p + r ≡ before * (p * 2) + (d * p + r)
more_digit before d p r = omega (arith, add-mul (2 * before) d p, mul_assoc 2 before p, mul_assoc before p 2)

pub number_after-u_bits : (before n value : ℕ) → number_after before (u_bits n value) ≡ before * 2 ^ n + value % 2 ^ n
unfolding u_bits
number_after-u_bits before zero value = omega arith
number_after-u_bits before (suc n) value =
    let more = ap (λ p. value % p) (sym (pow-suc 2 n)) ∙ mod_digit value n in
    number_after-u_bits (2 * before + digit (bit_of value n)) n value
    ∙ (more_digit before (digit (bit_of value n)) (2 ^ n) (value % 2 ^ n)
    ∙ rw (pow-suc 2 n) (ap (λ r. before * (2 ^ n * 2) + r) (sym more)))

-- what was written is read
pub number_of-u_bits : (n value : ℕ) → value < 2 ^ n → number_of (u_bits n value) ≡ value
unfolding number_of
number_of-u_bits n value h =
    let same : 0 * 2 ^ n + value % 2 ^ n ≡ value = omega (arith, mod-eq_of_lt h) in
    number_after-u_bits 0 n value ∙ same

half_digit : (before : ℕ) (b : Bool) → (2 * before + digit b) / 2 ≡ before
half_digit before true = omega arith
half_digit before false = omega arith

low_digit : (before : ℕ) (b : Bool) → ((2 * before + digit b) % 2 == 1) ≡ b
low_digit before true = ap (λ r. r == 1) (let e : (2 * before + 1) % 2 ≡ 1 = omega arith in e)
low_digit before false = ap (λ r. r == 1) (let e : (2 * before + 0) % 2 ≡ 0 = omega arith in e)

-- the number before the digits
pub number_after-div : (before : ℕ) (bs : List Bool) → number_after before bs / 2 ^ length bs ≡ before
number_after-div before [] = div-one before
number_after-div before (b ∷ bs) =
    let e : length bs + 1 ≡ suc (length bs) = omega arith in
    sym (shr-shr (number_after (2 * before + digit b) bs) (length bs) 1
    ∙ ap (λ k. number_after (2 * before + digit b) bs / 2 ^ k) e)
    ∙ ap (λ n. n / 2) (number_after-div (2 * before + digit b) bs) ∙ half_digit before b

pub number_of-below : (bs : List Bool) → number_of bs < 2 ^ length bs
unfolding number_of
number_of-below bs =
    let none : number_of bs / 2 ^ length bs < 1 = omega (arith, number_after-div 0 bs) in
    let below : number_of bs < 1 * 2 ^ length bs = (div-lt_iff_lt-mul (pow_pos (length bs))).0 none in
    omega arith

-- the digits of the number that bits spell are the bits
pub u_bits-number_after : (before : ℕ) (bs : List Bool) → u_bits (length bs) (number_after before bs) ≡ bs
unfolding u_bits bit_of
u_bits-number_after before [] = refl
u_bits-number_after before (b ∷ bs) =
    let first = ap (λ n. n % 2 == 1) (number_after-div (2 * before + digit b) bs) ∙ low_digit before b in
    rw (first, u_bits-number_after (2 * before + digit b) bs) refl

pub u_bits-number_of : (bs : List Bool) → u_bits (length bs) (number_of bs) ≡ bs
unfolding number_of
u_bits-number_of bs = u_bits-number_after 0 bs

-- ---- bits that stand side by side

number_after-append : (before : ℕ) (front back : List Bool)
    → number_after before (front ++ back) ≡ number_after (number_after before front) back
number_after-append before [] back = refl
number_after-append before (b ∷ front) back = number_after-append (2 * before + digit b) front back

number_after-number_of : (before : ℕ) (bs : List Bool) → number_after before bs ≡ before * 2 ^ length bs + number_of bs
number_after-number_of before bs =
    ap (number_after before) (sym (u_bits-number_of bs)) ∙ number_after-u_bits before (length bs) (number_of bs)
    ∙ ap (λ r. before * 2 ^ length bs + r) (mod-eq_of_lt (number_of-below bs))

pub number_of-append : (front back : List Bool)
    → number_of (front ++ back) ≡ number_of front * 2 ^ length back + number_of back
unfolding number_of
number_of-append front back = number_after-append 0 front back ∙ number_after-number_of (number_after 0 front) back

pub number_of-one : (bs : List Bool) → number_of (true ∷ bs) ≡ 2 ^ length bs + number_of bs
unfolding number_of
number_of-one bs =
    let one : 1 * 2 ^ length bs + number_of bs ≡ 2 ^ length bs + number_of bs = omega arith in
    number_after-number_of 1 bs ∙ one

number_of-single : (b : Bool) → number_of (b ∷ []) ≡ digit b
unfolding number_of
number_of-single true = refl
number_of-single false = refl

-- ---- u(n)

pub u_at-u_bits : (n value : ℕ) (rest : List Bool) → value < 2 ^ n
    → u_at n (u_bits n value ++ rest) ≡ Some (value, rest)
unfolding u_at
u_at-u_bits n value rest h =
    let long : n ≤ length (u_bits n value ++ rest) =
    omega (arith, length-append (u_bits n value) rest, length-u_bits n value) in
    rw (
      le-ltb (length (u_bits n value ++ rest)) n long,
      take_at (u_bits n value) rest n (length-u_bits n value),
      drop_at (u_bits n value) rest n (length-u_bits n value),
      number_of-u_bits n value h,
    )
    refl

pub u_at-short : (n : ℕ) (bs : List Bool) → length bs < n → u_at n bs ≡ None
unfolding u_at
u_at-short n bs h = rw (lt-ltb (length bs) n h) refl

-- reading as many bits as stand before others
pub u_at-front : (n : ℕ) (front rest : List Bool) → length front ≡ n
    → u_at n (front ++ rest) ≡ Some (number_of front, rest)
unfolding u_at
u_at-front n front rest h =
    let long : n ≤ length (front ++ rest) = omega (arith, length-append front rest) in
    rw (le-ltb (length (front ++ rest)) n long, take_at front rest n h, drop_at front rest n h) refl

-- what reading n bits tells
pub record Found (n : ℕ) (bs : List Bool) (value : ℕ) (rest : List Bool) : Type 0 where
  pub enough : n ≤ length bs
  pub number : number_of (take n bs) ≡ value
  pub left : drop n bs ≡ rest

found_if : (n : ℕ) (bs : List Bool) (short : Bool) (value : ℕ) (rest : List Bool) → nat_lt (length bs) n ≡ short
    → cond {A = Option (ℕ × List Bool)} short None (Some (number_of (take n bs), drop n bs)) ≡ Some (value, rest)
    → Found n bs value rest
found_if n bs true value rest e h = absurd cc
found_if n bs false value rest e h =
    let parts = some_pair_parts (number_of (take n bs)) value (drop n bs) rest h in
    record { enough = ltb-false (length bs) n e; number = parts.0; left = parts.1 }

pub u_at-found : (n : ℕ) (bs : List Bool) (value : ℕ) (rest : List Bool) → u_at n bs ≡ Some (value, rest)
    → Found n bs value rest
unfolding u_at
u_at-found n bs value rest h = found_if n bs (nat_lt (length bs) n) value rest refl h

pub u_at-only : (n : ℕ) (bs : List Bool) (value : ℕ) (rest : List Bool) → u_at n bs ≡ Some (value, rest)
    → (value < 2 ^ n) × (bs ≡ u_bits n value ++ rest)
u_at-only n bs value rest h =
    let f = u_at-found n bs value rest h in
    let long = length-take-le n bs f.enough in
    let small : value < 2 ^ n =
    subst (λ v. v < 2 ^ n) f.number (subst (λ k. number_of (take n bs) < 2 ^ k) long (number_of-below (take n bs))) in
    let digits : u_bits n value ≡ take n bs =
    rw (← f.number) (ap (λ k. u_bits k (number_of (take n bs))) (sym long) ∙ u_bits-number_of (take n bs)) in
    (small, sym (take-append-drop n bs) ∙ ap (λ x. x ++ drop n bs) (sym digits) ∙ ap (λ x. u_bits n value ++ x) f.left)

digit_same : (a b : Bool) → digit a ≡ digit b → a ≡ b
digit_same true true h = refl
digit_same true false h = absurd cc
digit_same false true h = absurd cc
digit_same false false h = refl

u_at-one : (b : Bool) (bs : List Bool) → u_at 1 (b ∷ bs) ≡ Some (digit b, bs)
u_at-one b bs = u_at-front 1 (b ∷ []) bs refl ∙ ap (λ n. Some (n, bs)) (number_of-single b)

pub flag_at-u_at : (flag : Bool) (bs rest : List Bool)
    → (flag_at bs ≡ Some (flag, rest)) ↔ (u_at 1 bs ≡ Some (digit flag, rest))
unfolding flag_at
flag_at-u_at flag [] rest =
    (λ h. absurd (none-some _ h), λ h. absurd (none-some _ (sym (u_at-short 1 [] (omega arith)) ∙ h)))
flag_at-u_at flag (b ∷ bs) rest = (
  λ h. let parts = some_pair_parts b flag bs rest h in
      u_at-one b bs ∙ ap (λ f. Some (digit f, bs)) parts.0 ∙ ap (λ r. Some (digit flag, r)) parts.1,
  λ h. let parts = some_pair_parts (digit b) (digit flag) bs rest (sym (u_at-one b bs) ∙ h) in
      ap (λ f. Some (f, bs)) (digit_same b flag parts.0) ∙ ap (λ r. Some (flag, r)) parts.1,
)
