-- The bands that have an offset.
use Rattle.std.proofs.Common.{◌≡◌, ◌≢◌, ℕ, ◌+◌, ◌-◌, ◌%◌, ◌<◌, ◌≤◌, arith}
use Rattle.std.proofs.lemmas.Bool.Decides.{nat_tests}
use Rattle.spec_sample_adaptive_offset.specs.Offsets.{band_index}

pub these : (position k : ℕ) → k < 4 → band_index position ((k + position) % 32) ≡ k + 1
unfolding band_index
these position k few =
    let e : ((k + position) % 32 + (32 - position % 32)) % 32 ≡ k = omega arith in
    grind (arith, nat_tests)

pub others : (position band : ℕ) → band < 32 → ((k : ℕ) → k < 4 → band ≢ (k + position) % 32)
    → band_index position band ≡ 0
unfolding band_index
others position band low none =
    let place : ℕ = (band + (32 - position % 32)) % 32 in
    let same : band ≡ ((band + (32 - position % 32)) % 32 + position) % 32 = omega arith in
    let far : (band + (32 - position % 32)) % 32 < 4 → ⊥ = λ lt. none ((band + (32 - position % 32)) % 32) lt same in
    grind (arith, nat_tests)
