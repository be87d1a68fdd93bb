-- Powers of two and four: how many places a square has.
use Rattle.std.proofs.Common.{◌≡◌, ℕ, zero, suc, ◌+◌, ◌-◌, ◌*◌, ◌^◌, ◌<◌, ◌≤◌, ap, ◌∙◌, arith}
use Rattle.std.proofs.lemmas.Nat.{pow-add}
use Rattle.std.proofs.Math.Nat.{pow-succ', pow-le-pow_right}

pub some_places : (n : ℕ) → 1 ≤ 2 ^ n
some_places zero = omega arith
some_places (suc n) = omega (arith, pow-succ' 2 n, some_places n)

pub some_area : (n : ℕ) → 1 ≤ 4 ^ n
some_area zero = omega arith
some_area (suc n) = omega (arith, pow-succ' 4 n, some_area n)

pub quarters : (n : ℕ) → 0 < n → 4 ^ n ≡ 4 * 4 ^ (n - 1)
quarters n some = let e : n ≡ suc (n - 1) = omega arith in ap (λ k. 4 ^ k) e ∙ pow-succ' 4 (n - 1)

pub halves : (n : ℕ) → 0 < n → 2 ^ n ≡ 2 * 2 ^ (n - 1)
halves n some = let e : n ≡ suc (n - 1) = omega arith in ap (λ k. 2 ^ k) e ∙ pow-succ' 2 (n - 1)

pub few_samples : (n : ℕ) → n ≤ 5 → 2 ^ n ≤ 32
few_samples n le = pow-le-pow_right {n = 2} (omega arith) le

-- how many samples the blocks of a square of places have
pub luma_area : (n : ℕ) → 4 ^ (n + 2) ≡ 16 * 4 ^ n
luma_area n = omega (arith, pow-add 4 n 2)

pub chroma_area : (n : ℕ) → 4 ^ (n + 1) ≡ 4 * 4 ^ n
chroma_area n = omega (arith, pow-add 4 n 1)
