-- Codes and alignment as numbers of so many bits.
use Rattle.std.proofs.Common.{◌≡◌, ℕ, ◌+◌, ◌-◌, ◌*◌, ◌%◌, ◌^◌, ◌<◌, ◌≤◌, ◌++◌, ap, ◌∙◌, arith, lit<}
use Rattle.std.proofs.Math.Nat.{div-eq_of_lt, pow-le-pow_right}
use Rattle.std.proofs.lemmas.Nat.{one_shl}
use Rattle.spec_bits.specs.Spelling.{u_bits, ue_bits, aligned_bits}
use Rattle.spec_bits.proofs.Numbers.{two_pow-succ}
use Rattle.spec_bits.proofs.Digits.{u_bits-zero}
use Rattle.spec_bits.proofs.Codes.{HasDigits, leading_zero_bits_of-unique}
use Rattle.spec_bits.proofs.Bytes.{u_bits-add}
use Rattle.spec_bits.proofs.Aligned.{u_bits-one_zeros}

pub code_below : (v zeros w : ℕ) → w ≡ v + 1 → v + 1 < 2 * 2 ^ zeros → w < 2 ^ (2 * zeros + 1)
code_below v zeros w is high =
    let two : 0 < 2 = lit< tt in
    let more : zeros + 1 ≤ 2 * zeros + 1 = omega arith in
    omega (arith, two_pow-succ zeros, pow-le-pow_right two more)

pub ue_bits-number : (v zeros w : ℕ) → w ≡ v + 1 → v ≤ 4294967294 → zeros < 32 → 2 ^ zeros ≤ v + 1
    → v + 1 < 2 * 2 ^ zeros → u_bits (2 * zeros + 1) w ≡ ue_bits v
unfolding ue_bits
ue_bits-number v zeros w is most few low high =
    let digits : HasDigits v zeros =
    record { few = omega arith; low = low; high = omega (arith, two_pow-succ zeros) } in
    let e : 2 * zeros + 1 ≡ zeros + (zeros + 1) = omega arith in
    let below = digits.high in
    rw (leading_zero_bits_of-unique v zeros digits)
    (ap (u_bits (2 * zeros + 1)) is ∙ ap (λ k. u_bits k (v + 1)) e ∙ u_bits-add zeros (zeros + 1) (v + 1)
    ∙ ap (λ q. u_bits zeros q ++ u_bits (zeros + 1) (v + 1)) (div-eq_of_lt below)
    ∙ ap (λ x. x ++ u_bits (zeros + 1) (v + 1)) (u_bits-zero zeros))

pub aligned_bits-number : (before count : ℕ) → count ≡ 8 - before % 8
    → u_bits count (1 * 2 ^ (count - 1) % 2 ^ 64) ≡ aligned_bits before
unfolding aligned_bits
aligned_bits-number before count is =
    let zeros : count - 1 ≡ 7 - before % 8 = omega arith in
    let more : count ≡ 7 - before % 8 + 1 = omega arith in
    let low : 7 - before % 8 < 64 = omega arith in
    ap (λ k. u_bits count (1 * 2 ^ k % 2 ^ 64)) zeros ∙ ap (u_bits count) (one_shl (7 - before % 8) 64 low)
    ∙ ap (λ k. u_bits k (2 ^ (7 - before % 8))) more
    ∙ u_bits-one_zeros (7 - before % 8)
