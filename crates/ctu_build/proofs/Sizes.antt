-- How many samples blocks have on a side.
use Rattle.std.proofs.Common.{◌≡◌, ℕ, ◌+◌, ◌-◌, ◌*◌, ◌^◌, ◌≤◌, sym, ap, ◌∙◌, arith}
use Rattle.std.proofs.lemmas.Nat.{pow-add}
use Rattle.std.proofs.Math.Nat.{pow-le-pow_right}

pub small : (log2 : ℕ) → log2 ≤ 5 → 2 ^ log2 ≤ 32
small log2 h = pow-le-pow_right (omega arith) h

pub large : (log2 : ℕ) → 2 ≤ log2 → 4 ≤ 2 ^ log2
large log2 h = pow-le-pow_right (omega arith) h

-- a square of places in luma, and one in chroma
pub luma_side : (n : ℕ) → 2 ^ (n + 2) ≡ 4 * 2 ^ n
luma_side n = omega (arith, pow-add 2 n 2)

pub chroma_side : (n : ℕ) → 2 ^ (n + 1) ≡ 2 * 2 ^ n
chroma_side n = omega (arith, pow-add 2 n 1)

-- a side of at least four samples is made of groups of four
pub fours : (log2 : ℕ) → 2 ≤ log2 → 2 ^ log2 ≡ 4 * 2 ^ (log2 - 2)
fours log2 h =
    let e : log2 - 2 + 2 ≡ log2 = omega arith in
    ap (λ (k : ℕ). 2 ^ k) (sym e) ∙ luma_side (log2 - 2)
