-- Components that have half as many samples across and down.
use Rattle.std.proofs.Common.{◌≡◌, ℕ, ◌+◌, ◌-◌, ◌*◌, ◌/◌, ◌%◌, ◌<◌, ◌≤◌, arith}
use Rattle.std.proofs.Math.Nat.{div-add-mod, mod-lt}

-- blocks cover a side, and the last one begins before its end
pub covered : (w s : ℕ) → 0 < s → (w ≤ s * ((w + s - 1) / s)) × (s * ((w + s - 1) / s) < w + s)
covered w s some =
    let e = div-add-mod (w + s - 1) s in
    let lt : (w + s - 1) % s < s = mod-lt (w + s - 1) some in
    (omega (arith, e, lt), omega (arith, e, lt))

twice_times : (s m n : ℕ) → s ≡ 2 * m → s * n ≡ 2 * (m * n)
twice_times s m n e = rw e (grind arith)

-- the same of half a side in half as great blocks
pub half_covered : (w s : ℕ) → w % 2 ≡ 0 → s % 2 ≡ 0 → 0 < s
    → (w / 2 ≤ s / 2 * ((w + s - 1) / s)) × (s / 2 * ((w + s - 1) / s) < w / 2 + s / 2)
half_covered w s even_w even_s some =
    let n : ℕ = (w + s - 1) / s in
    let c = covered w s some in
    let ew : w ≡ 2 * (w / 2) = omega (arith, even_w) in
    let es : s ≡ 2 * (s / 2) = omega (arith, even_s) in
    let twice : s * ((w + s - 1) / s) ≡ 2 * (s / 2 * ((w + s - 1) / s)) = twice_times s (s / 2) ((w + s - 1) / s) es in
    (omega (arith, c.0, ew, es, twice), omega (arith, c.1, ew, es, twice))
