-- Lines of a block laid one after the other.
use Rattle.std.proofs.Common.{◌≡◌, ℕ, ◌+◌, ◌-◌, ◌*◌, ◌<◌, ◌≤◌, List, length, slice_set, cond, nat_le, nat_lt, ◌&&◌}
use Rattle.std.proofs.Common.{arith}
use Rattle.std.proofs.lemmas.Grind.{common_steps}
use Rattle.std.proofs.lemmas.Bool.Decides.{nat_tests}
use Rattle.std.proofs.Math.Nat.{mul-le-mul_left}
use Rattle.spec_intra_prediction.specs.Neighbours.{at}

-- one more sample of a line
pub one_more : (first k v : ℕ) (start before : List ℕ) (s : ℕ → ℕ) → first + k < length before → v ≡ s k →
    ((q : ℕ) → at before q ≡ cond (nat_le first q && nat_lt q (first + k)) (s (q - first)) (at start q)) →
    (q : ℕ) → at (slice_set before (first + k) v) q
    ≡ cond (nat_le first q && nat_lt q (first + (k + 1))) (s (q - first)) (at start q)
one_more first k v start before s room is told q =
    let t = told q in
    grind (arith, common_steps, nat_tests)

-- the line after a line begins where it ends
pub line_below : (n a b : ℕ) → a < b → n * a + n ≤ n * b
line_below n a b lt = let le : n * (a + 1) ≤ n * b = mul-le-mul_left n (omega arith) in grind arith

-- one more line of a block
pub line_more : (n y : ℕ) (now before : List ℕ) (f : ℕ → ℕ → ℕ) →
    ((q : ℕ) → at now q ≡ cond (nat_le (n * y) q && nat_lt q (n * y + n)) (f (q - n * y) y) (at before q)) →
    ((i j : ℕ) → i < n → j < y → at before (n * j + i) ≡ f i j) →
    (i j : ℕ) → i < n → j < y + 1 → at now (n * j + i) ≡ f i j
line_more n y now before f wrote told i j h k =
    let below = line_below n j y in
    let w = wrote (n * j + i) in
    let t = told i j h in
    grind (arith, nat_tests)

-- what lies behind a block stays
pub line_rest : (n y : ℕ) (now before start : List ℕ) (f : ℕ → ℕ → ℕ) → y < n →
    ((q : ℕ) → at now q ≡ cond (nat_le (n * y) q && nat_lt q (n * y + n)) (f (q - n * y) y) (at before q)) →
    ((k : ℕ) → n * n ≤ k → at before k ≡ at start k) →
    (k : ℕ) → n * n ≤ k → at now k ≡ at start k
line_rest n y now before start f lt wrote kept k h =
    let below = line_below n y n lt in
    let w = wrote k in
    let t = kept k h in
    grind (arith, nat_tests)
