-- Exp-Golomb codes and the bits that spell them.
use Rattle.std.proofs.Common.{◌≡◌, ℕ, zero, suc, ◌+◌, ◌-◌, ◌*◌, ◌/◌, ◌%◌, ◌^◌, ◌<◌, ◌≤◌, Bool, true, false, cond}
use Rattle.std.proofs.Common.{Option, Some, None, List, [], ◌∷◌, ◌++◌, length, replicate, take, drop, ◌⊎◌, inl, inr}
use Rattle.std.proofs.Common.{⊎_elim, lit<, refl, sym, ap, subst, ◌∙◌, arith}
use Rattle.std.specs.Prelude.{◌==◌, nat_lt}
use Rattle.std.specs.Int.Count.{count_leading_zeros, leading_unique}
use Rattle.std.proofs.lemmas.Nat.{pow_pos, leading_top, shr_high}
use Rattle.std.proofs.lemmas.List.{append_assoc, take_at, take-append-drop, length-append}
use Rattle.std.proofs.Math.Nat.{div-eq_of_lt, pow-le-pow_right}
use Rattle.std.proofs.lemmas.Bool.{ltb-false, le-ltb, cases_lt, false≢true}
use Rattle.std.proofs.lemmas.Option.{some_pair_parts}
use Rattle.spec_bits.specs.Bits.{bit_of, u_at, ◌>>=◌}
use Rattle.spec_bits.specs.ExpGolomb.{leading_zero_bits, ue_at}
use Rattle.spec_bits.specs.Spelling.{u_bits, leading_zero_bits_of, ue_bits}
use Rattle.spec_bits.proofs.Numbers.{two_pow-succ}
use Rattle.spec_bits.proofs.Digits.{u_bits-zero, u_at-u_bits, u_at-found, u_at-only}

-- ---- the zeros before a 1

pub leading_zero_bits-replicate : (zeros : ℕ) (more : List Bool)
    → leading_zero_bits (replicate zeros false ++ true ∷ more) ≡ zeros
leading_zero_bits-replicate zero more = refl
leading_zero_bits-replicate (suc zeros) more = ap suc (leading_zero_bits-replicate zeros more)

pub take-leading_zero_bits : (bs : List Bool) → take (leading_zero_bits bs) bs ≡ replicate (leading_zero_bits bs) false
take-leading_zero_bits [] = refl
take-leading_zero_bits (true ∷ bs) = refl
take-leading_zero_bits (false ∷ bs) = ap (λ x. false ∷ x) (take-leading_zero_bits bs)

-- what follows the zeros is nothing, or a 1
pub drop-leading_zero_bits : (bs : List Bool)
    → (drop (leading_zero_bits bs) bs ≡ []) ⊎ ((more : List Bool) × (drop (leading_zero_bits bs) bs ≡ true ∷ more))
drop-leading_zero_bits [] = inl refl
drop-leading_zero_bits (true ∷ bs) = inr (bs, refl)
drop-leading_zero_bits (false ∷ bs) = drop-leading_zero_bits bs

-- ---- how many zeros the code of a value has

pub record HasDigits (value zeros : ℕ) : Type 0 where
  pub few : zeros ≤ 31
  pub low : 2 ^ zeros ≤ value + 1
  pub high : value + 1 < 2 ^ (zeros + 1)

pub leading_zero_bits_of-digits : (value : ℕ) → value ≤ 4294967294 → HasDigits value (leading_zero_bits_of value)
unfolding leading_zero_bits_of
leading_zero_bits_of-digits value h =
    let top = leading_top 32 (value + 1) (omega arith) (omega arith) in
    let is : 31 - count_leading_zeros 32 (value + 1) ≡ top.0 = omega (arith, top.1) in
    let e : suc top.0 ≡ top.0 + 1 = omega arith in
    rw is (record { few = omega (arith, top.1); low = top.2; high = subst (λ k. value + 1 < 2 ^ k) e top.3 })

pub leading_zero_bits_of-unique : (value zeros : ℕ) → HasDigits value zeros → leading_zero_bits_of value ≡ zeros
unfolding leading_zero_bits_of
leading_zero_bits_of-unique value zeros d =
    let few = d.few in
    let is =
    leading_unique 32 (value + 1) (31 - zeros) (zeros + 1) (omega arith) d.high
    (omega (arith, d.low, two_pow-succ zeros)) in
    omega (arith, is)

-- the greatest digit of value + 1 is 1
first_digit : (value zeros : ℕ) → HasDigits value zeros → (value + 1) / 2 ^ zeros ≡ 1
first_digit value zeros d =
    let r : value + 1 ≡ 1 * 2 ^ zeros + (value + 1 - 2 ^ zeros) = omega (arith, d.low) in
    ap (λ n. n / 2 ^ zeros) r
    ∙ shr_high 1 zeros (value + 1 - 2 ^ zeros) (omega (arith, d.low, d.high, two_pow-succ zeros))

pub u_bits-first : (value zeros : ℕ) → HasDigits value zeros
    → u_bits (zeros + 1) (value + 1) ≡ true ∷ u_bits zeros (value + 1)
unfolding u_bits bit_of
u_bits-first value zeros d =
    let e : zeros + 1 ≡ suc zeros = omega arith in
    rw e (ap (λ q. (q % 2 == 1) ∷ u_bits zeros (value + 1)) (first_digit value zeros d))

-- ---- reading

pub bind_some : {A B : Type 0} (o : Option A) (f : A → Option B) (y : B) → (o >>= f) ≡ Some y
    → (x : A) × (o ≡ Some x) × (f x ≡ Some y)
bind_some (Some x) f y h = (x, refl, h)
bind_some None f y h = absurd cc

ue_from : (zeros : ℕ) (bs mid rest : List Bool) (prefix code : ℕ) → leading_zero_bits bs ≡ zeros → zeros ≤ 31
    → u_at zeros bs ≡ Some (prefix, mid) → u_at (zeros + 1) mid ≡ Some (code, rest) → ue_at bs ≡ Some (code - 1, rest)
unfolding ue_at
ue_from zeros bs mid rest prefix code is few first second =
    rw (is, le-ltb 31 zeros few, first, second) refl

ue_at-zeros : (value zeros : ℕ) (rest : List Bool) → HasDigits value zeros
    → ue_at ((replicate zeros false ++ u_bits (zeros + 1) (value + 1)) ++ rest) ≡ Some (value, rest)
ue_at-zeros value zeros rest d =
    let code : List Bool = u_bits (zeros + 1) (value + 1) ++ rest in
    let split = append_assoc (replicate zeros false) (u_bits (zeros + 1) (value + 1)) rest in
    let starts =
    ap (λ x. leading_zero_bits (replicate zeros false ++ (x ++ rest))) (u_bits-first value zeros d)
    ∙ leading_zero_bits-replicate zeros (u_bits zeros (value + 1) ++ rest) in
    let none : 0 < 2 ^ zeros = pow_pos zeros in
    let first = ap (λ x. u_at zeros (x ++ code)) (sym (u_bits-zero zeros)) ∙ u_at-u_bits zeros 0 code none in
    let second = u_at-u_bits (zeros + 1) (value + 1) rest d.high in
    let e : value + 1 - 1 ≡ value = omega arith in
    ap ue_at split ∙ ue_from zeros (replicate zeros false ++ code) code rest 0 (value + 1) starts d.few first second
    ∙ ap (λ v. Some (v, rest)) e

pub ue_at-ue_bits : (value : ℕ) (rest : List Bool) → value ≤ 4294967294
    → ue_at (ue_bits value ++ rest) ≡ Some (value, rest)
unfolding ue_bits
ue_at-ue_bits value rest h = ue_at-zeros value (leading_zero_bits_of value) rest (leading_zero_bits_of-digits value h)

cond_some : {X : Type 0} (c : Bool) (o : Option X) (y : X) → cond c None o ≡ Some y → (c ≡ false) × (o ≡ Some y)
cond_some true o y h = absurd cc
cond_some false o y h = (refl, h)

-- what a read code consists of
pub record Read (bs : List Bool) (value : ℕ) (rest : List Bool) : Type 0 where
  pub few : leading_zero_bits bs ≤ 31
  pub prefix : ℕ
  pub mid : List Bool
  pub code : ℕ
  pub first : u_at (leading_zero_bits bs) bs ≡ Some (prefix, mid)
  pub second : u_at (leading_zero_bits bs + 1) mid ≡ Some (code, rest)
  pub told : value ≡ code - 1

ue_at-read : (bs : List Bool) (value : ℕ) (rest : List Bool) → ue_at bs ≡ Some (value, rest) → Read bs value rest
unfolding ue_at
ue_at-read bs value rest h =
    let zeros = leading_zero_bits bs in
    let within =
    cond_some (nat_lt 31 zeros)
    (u_at zeros bs >>= λ prefix. u_at (zeros + 1) prefix.1 >>= λ code. Some (code.0 - 1, code.1)) (value, rest) h in
    let first =
    bind_some (u_at zeros bs) (λ prefix. u_at (zeros + 1) prefix.1 >>= λ code. Some (code.0 - 1, code.1))
    (value, rest) within.1 in
    let second = bind_some (u_at (zeros + 1) first.0.1) (λ code. Some (code.0 - 1, code.1)) (value, rest) first.2 in
    let parts = some_pair_parts (second.0.0 - 1) value second.0.1 rest second.2 in
    record {
      few = ltb-false 31 zeros within.0;
      prefix = first.0.0;
      mid = first.0.1;
      code = second.0.0;
      first = first.1;
      second = second.1 ∙ ap (λ x. Some (second.0.0, x)) parts.1;
      told = sym parts.0;
    }

-- a number whose digit at a place is 1 is no less than that digit's worth
digit_worth : (code zeros : ℕ) → bit_of code zeros ≡ true → 2 ^ zeros ≤ code
unfolding bit_of
digit_worth code zeros h = ⊎_elim
    (λ lt. absurd (false≢true (sym (ap (λ q. q % 2 == 1) (div-eq_of_lt lt)) ∙ h)))
    (λ le. le)
    (cases_lt code (2 ^ zeros))

worth_from_first : (code count : ℕ) (mid more : List Bool) → (mid ≡ []) ⊎ ((x : List Bool) × (mid ≡ true ∷ x))
    → mid ≡ bit_of code count ∷ more → 2 ^ count ≤ code
worth_from_first code count mid more (inl none) is = absurd cc
worth_from_first code count mid more (inr one) is =
    let same : true ∷ one.0 ≡ bit_of code count ∷ more = sym one.1 ∙ is in
    digit_worth code count (sym cc)

-- the code's first bit is the 1 that ends the zeros
code_worth : (zeros code : ℕ) (mid rest : List Bool) → (mid ≡ []) ⊎ ((more : List Bool) × (mid ≡ true ∷ more))
    → mid ≡ u_bits (zeros + 1) code ++ rest → 2 ^ zeros ≤ code
unfolding u_bits
code_worth zeros code mid rest starts is =
    let e : zeros + 1 ≡ suc zeros = omega arith in
    let digits : mid ≡ bit_of code zeros ∷ (u_bits zeros code ++ rest) = is ∙ ap (λ k. u_bits k code ++ rest) e in
    worth_from_first code zeros mid (u_bits zeros code ++ rest) starts digits

pub ue_at-only : (bs : List Bool) (value : ℕ) (rest : List Bool) → ue_at bs ≡ Some (value, rest)
    → (value ≤ 4294967294) × (bs ≡ ue_bits value ++ rest)
unfolding ue_bits
ue_at-only bs value rest h =
    let r = ue_at-read bs value rest h in
    let few = r.few in
    let zeros = leading_zero_bits bs in
    let mid : drop zeros bs ≡ r.mid = (u_at-found zeros bs r.prefix r.mid r.first).left in
    let only = u_at-only (zeros + 1) r.mid r.code rest r.second in
    let starts =
    subst (λ (m : List Bool). (m ≡ []) ⊎ ((more : List Bool) × (m ≡ true ∷ more))) mid (drop-leading_zero_bits bs) in
    let worth = code_worth zeros r.code r.mid rest starts only.1 in
    let some = pow_pos zeros in
    let next : value + 1 ≡ r.code = omega (arith, r.told) in
    let digits : HasDigits value zeros = record { few = few; low = omega arith; high = omega (arith, only.0) } in
    let is = leading_zero_bits_of-unique value zeros digits in
    let most : zeros + 1 ≤ 32 = omega arith in
    let two : 0 < 2 = lit< tt in
    let spelled : bs ≡ replicate zeros false ++ (u_bits (zeros + 1) (value + 1) ++ rest) =
    sym (take-append-drop zeros bs) ∙ ap (λ x. x ++ drop zeros bs) (take-leading_zero_bits bs)
    ∙ ap (λ x. replicate zeros false ++ x) (mid ∙ only.1)
    ∙ ap (λ c. replicate zeros false ++ (u_bits (zeros + 1) c ++ rest)) (sym next) in (
      omega (arith, only.0, pow-le-pow_right two most),
      rw is (spelled ∙ sym (append_assoc (replicate zeros false) (u_bits (zeros + 1) (value + 1)) rest)),
    )

-- reading depends on the bits of the code alone
pub ue_at-other : (bs : List Bool) (value : ℕ) (rest other : List Bool) → ue_at bs ≡ Some (value, rest)
    → ue_at (take (length bs - length rest) bs ++ other) ≡ Some (value, other)
ue_at-other bs value rest other h =
    let only = ue_at-only bs value rest h in
    let count : length (ue_bits value) ≡ length bs - length rest =
    omega (arith, ap length only.1, length-append (ue_bits value) rest) in
    let front : take (length bs - length rest) bs ≡ ue_bits value =
    ap (take (length bs - length rest)) only.1 ∙ take_at (ue_bits value) rest (length bs - length rest) count in
    ap (λ x. ue_at (x ++ other)) front ∙ ue_at-ue_bits value other only.0
