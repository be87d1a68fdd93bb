-- Signed values and their code numbers (9.2.2).
use Rattle.std.proofs.Common.{◌≡◌, ℕ, zero, suc, ◌+◌, ◌-◌, ◌*◌, ◌/◌, ◌%◌, ◌<◌, ◌≤◌, Bool, true, false, cond, Some}
use Rattle.std.proofs.Common.{List}
use Rattle.std.proofs.Common.{◌++◌, refl, sym, ap, ◌∙◌, arith}
use Rattle.std.specs.Prelude.{ℤ, pos, negsuc, neg_ℤ, nat_abs, ◌==◌}
use Rattle.std.proofs.lemmas.Bool.{eqb-true, eqb-false}
use Rattle.std.proofs.lemmas.Option.{some_pair_parts}
use Rattle.spec_bits.specs.ExpGolomb.{ue_at, signed_of, se_at}
use Rattle.spec_bits.specs.Spelling.{ue_bits, code_of, se_bits}
use Rattle.spec_bits.proofs.Codes.{bind_some, ue_at-ue_bits, ue_at-only}

odd_is : (code k : ℕ) → code ≡ 2 * k + 1 → signed_of code ≡ pos (k + 1)
unfolding signed_of
odd_is code k h =
    let odd : code % 2 ≡ 1 = omega arith in
    let half : code / 2 ≡ k = omega arith in
    rw (odd, half) refl

even_is : (code k : ℕ) → code ≡ 2 * k → signed_of code ≡ neg_ℤ (pos k)
unfolding signed_of
even_is code k h =
    let even : code % 2 ≡ 0 = omega arith in
    let half : code / 2 ≡ k = omega arith in
    rw (even, half) refl

pub signed_of-code_of : (value : ℤ) → signed_of (code_of value) ≡ value
unfolding code_of
signed_of-code_of (pos zero) = even_is 0 0 refl
signed_of-code_of (pos (suc k)) =
    odd_is (2 * suc k - 1) k (omega arith) ∙ ap pos (let e : k + 1 ≡ suc k = omega arith in e)
signed_of-code_of (negsuc k) =
    even_is (2 * (k + 1)) (k + 1) refl ∙ ap (λ n. neg_ℤ (pos n)) (let e : k + 1 ≡ suc k = omega arith in e)

code_of-neg : (k : ℕ) → code_of (neg_ℤ (pos k)) ≡ 2 * k
unfolding code_of
code_of-neg zero = refl
code_of-neg (suc k) = omega arith

zero_below_two : (r : ℕ) → r < 2 → (r ≡ 1 → ⊥) → r ≡ 0
zero_below_two zero small other = refl
zero_below_two (suc zero) small other = absurd (other refl)
zero_below_two (suc (suc r)) small other = absurd (omega arith)

code_of-if : (code : ℕ) (odd : Bool) → (code % 2 == 1) ≡ odd
    → code_of (cond odd (pos (code / 2 + 1)) (neg_ℤ (pos (code / 2)))) ≡ code
unfolding code_of
code_of-if code true h = omega (arith, eqb-true (code % 2) 1 h)
code_of-if code false h =
    let even = zero_below_two (code % 2) (omega arith) (eqb-false (code % 2) 1 h) in
    let whole : 2 * (code / 2) ≡ code = omega arith in
    code_of-neg (code / 2) ∙ whole

pub code_of-signed_of : (code : ℕ) → code_of (signed_of code) ≡ code
unfolding signed_of
code_of-signed_of code = code_of-if code (code % 2 == 1) refl

pub code_of-range : (value : ℤ) → nat_abs value ≤ 2147483647 → code_of value ≤ 4294967294
unfolding code_of
code_of-range (pos k) h = omega arith
code_of-range (negsuc k) h = omega arith

pub range-code_of : (value : ℤ) → code_of value ≤ 4294967294 → nat_abs value ≤ 2147483647
unfolding code_of
range-code_of (pos k) h = omega arith
range-code_of (negsuc k) h = omega arith

pub se_at-se_bits : (value : ℤ) (rest : List Bool) → nat_abs value ≤ 2147483647
    → se_at (se_bits value ++ rest) ≡ Some (value, rest)
unfolding se_at se_bits
se_at-se_bits value rest h =
    rw (ue_at-ue_bits (code_of value) rest (code_of-range value h), signed_of-code_of value) refl

pub se_at-only : (bs : List Bool) (value : ℤ) (rest : List Bool) → se_at bs ≡ Some (value, rest)
    → (nat_abs value ≤ 2147483647) × (bs ≡ se_bits value ++ rest)
unfolding se_at se_bits
se_at-only bs value rest h =
    let read = bind_some (ue_at bs) (λ code. Some (signed_of code.0, code.1)) (value, rest) h in
    let parts = some_pair_parts (signed_of read.0.0) value read.0.1 rest read.2 in
    let only = ue_at-only bs read.0.0 read.0.1 read.1 in
    let code : code_of value ≡ read.0.0 = ap code_of (sym parts.0) ∙ code_of-signed_of read.0.0 in (
      range-code_of value (omega (arith, only.0)),
      only.1 ∙ ap (λ c. ue_bits c ++ read.0.1) (sym code) ∙ ap (λ r. ue_bits (code_of value) ++ r) parts.1,
    )
