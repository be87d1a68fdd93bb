-- What is small in the place of the last level.
use Rattle.std.proofs.Common.{◌≡◌, ℕ, ◌+◌, ◌-◌, ◌*◌, ◌/◌, ◌%◌, ◌^◌, ◌<◌, ◌≤◌, Bool, true, false, not, ◌&&◌, ◌||◌}
use Rattle.std.proofs.Common.{refl}
use Rattle.std.proofs.Common.{subst, lit<, arith}
use Rattle.std.specs.Prelude.{nat_le, nat_lt, slice_index}
use Rattle.std.specs.List.{list_all, range_with_len}
use Rattle.std.proofs.lemmas.Bool.{lt-ltb, ltb-true, leb-true, and_parts}
use Rattle.std.proofs.Math.Nat.{mod-eq_of_lt, mul-le-mul, pow-le-pow_right}
use Rattle.std.proofs.lemmas.Nat.{mul-pow, pow-add}
use Rattle.spec_bits.proofs.Numbers.{two_pow-succ}
use Rattle.spec_cabac.proofs.TableRules.{tested}
use Rattle.spec_residuals.specs.declared.tables.TheConstants.{CTX_IDX_MAP}

-- a test of two numbers below 10
tested_pair : (p : ℕ → ℕ → Bool) → list_all (λ j. p (j / 10) (j % 10)) (range_with_len 0 60) ≡ true → (a b : ℕ) → a ≤ 5
    → b < 10 → p a b ≡ true
tested_pair p computed a b few small =
    let at = tested (λ j. p (j / 10) (j % 10)) 60 computed (10 * a + b) (omega arith) in
    let d : (10 * a + b) / 10 ≡ a = omega arith in
    let m : (10 * a + b) % 10 ≡ b = omega arith in
    subst (λ (i : ℕ). p a i ≡ true) m (subst (λ (i : ℕ). p i ((10 * a + b) % 10) ≡ true) d at)

implied : (a b : Bool) → a ≡ true → (not a || b) ≡ true → b ≡ true
implied true b e h = h
implied false b e h = absurd cc

both : (a b : Bool) → a ≡ true → b ≡ true → (a && b) ≡ true
both true b e h = h
both false b e h = e

abbrev last_ok : ℕ → ℕ → Bool
last_ok log2 p =
    not (nat_lt 3 p && nat_lt p (2 * log2)) || nat_le (2 ^ (p / 2 - 1) * (2 + p % 2) + 2 ^ (p / 2 - 1)) (2 ^ log2)

last_all : list_all (λ j. last_ok (j / 10) (j % 10)) (range_with_len 0 60) ≡ true
last_all = refl

-- a column or row with a suffix lies in the block
pub last_small : (log2 prefix suffix : ℕ) → log2 ≤ 5 → prefix < 2 * log2 → 3 < prefix → suffix < 2 ^ (prefix / 2 - 1)
    → 2 ^ (prefix / 2 - 1) * (2 + prefix % 2) + suffix < 2 ^ log2
last_small log2 prefix suffix few low long small =
    let test = tested_pair last_ok last_all log2 prefix few (omega arith) in
    let le = leb-true _ _ (implied _ _ (both _ _ (lt-ltb _ _ long) (lt-ltb _ _ low)) test) in
    omega arith

short_all : list_all (λ k. nat_le 4 (2 ^ (k + 2))) (range_with_len 0 4) ≡ true
short_all = refl

pub at_least_4 : (log2 : ℕ) → 2 ≤ log2 → log2 ≤ 5 → 4 ≤ 2 ^ log2
at_least_4 log2 some few =
    let e : log2 - 2 + 2 ≡ log2 = omega arith in
    subst (λ (k : ℕ). 4 ≤ 2 ^ k) e
    (leb-true _ _ (tested (λ k. nat_le 4 (2 ^ (k + 2))) 4 short_all (log2 - 2) (omega arith)))

abbrev context_ok : ℕ → ℕ → Bool
context_ok log2 i =
    not (nat_lt 1 log2 && nat_lt (i + 1) (2 * log2))
    || (nat_lt (3 * (log2 - 2) + (log2 - 1) / 4 + i / 2 ^ ((log2 + 1) / 4)) 18 && nat_lt (15 + i / 2 ^ (log2 - 2)) 18)

context_all : list_all (λ j. context_ok (j / 10) (j % 10)) (range_with_len 0 60) ≡ true
context_all = refl

pub record ArePrefixContexts (log2 i : ℕ) : Type 0 where
  pub luma : 3 * (log2 - 2) + (log2 - 1) / 4 + i / 2 ^ ((log2 + 1) / 4) < 18
  pub chroma : 15 + i / 2 ^ (log2 - 2) < 18

-- the prefixes have 18 contexts each
pub prefix_contexts : (log2 i : ℕ) → 2 ≤ log2 → log2 ≤ 5 → i + 1 < 2 * log2 → ArePrefixContexts log2 i
prefix_contexts log2 i some few inside =
    let least : 1 < log2 = omega arith in
    let test = tested_pair context_ok context_all log2 i few (omega arith) in
    let parts = and_parts _ _ (implied _ _ (both _ _ (lt-ltb _ _ least) (lt-ltb _ _ inside)) test) in
    record { luma = ltb-true _ _ parts.0; chroma = ltb-true _ _ parts.1 }

map_all : list_all (λ i. nat_lt (slice_index CTX_IDX_MAP i) 9) (range_with_len 0 16) ≡ true
map_all = refl

pub map_small : (i : ℕ) → i < 16 → slice_index CTX_IDX_MAP i < 9
map_small i inside = ltb-true _ _ (tested (λ i. nat_lt (slice_index CTX_IDX_MAP i) 9) 16 map_all i inside)

-- a place of the block lies in one of its sub-blocks
pub quarter_inside : (log2 x : ℕ) → 2 ≤ log2 → x < 2 ^ log2 → x / 4 < 2 ^ (log2 - 2)
quarter_inside log2 x some inside =
    let e : log2 ≡ log2 - 2 + 1 + 1 = omega arith in
    let low : x < 2 ^ (log2 - 2 + 1 + 1) = subst (λ (k : ℕ). x < 2 ^ k) e inside in
    omega (arith, two_pow-succ (log2 - 2 + 1), two_pow-succ (log2 - 2))

-- what a prefix stands for is small
pub shifted_small : (n k : ℕ) → n ≤ 268435458 → k ≤ 4 → n * 2 ^ k % 18446744073709551616 ≤ 4294967328
shifted_small n k low few =
    let two : 0 < 2 = lit< tt in
    let power : 2 ^ k ≤ 16 = pow-le-pow_right two few in
    let product : n * 2 ^ k ≤ 268435458 * 16 = mul-le-mul low power in
    let same : n * 2 ^ k % 18446744073709551616 ≡ n * 2 ^ k = mod-eq_of_lt (omega arith) in
    rw same (omega arith)

pub power_small : (n : ℕ) → n ≤ 3 → 1 * 2 ^ n % 4294967296 ≤ 8
power_small n few =
    let two : 0 < 2 = lit< tt in
    let power : 2 ^ n ≤ 8 = pow-le-pow_right two few in
    let same : 1 * 2 ^ n % 4294967296 ≡ 1 * 2 ^ n = mod-eq_of_lt (omega arith) in
    rw same (omega arith)

pub wide_power_small : (n : ℕ) → n ≤ 28 → 1 * 2 ^ n % 18446744073709551616 ≤ 268435456
wide_power_small n few =
    let two : 0 < 2 = lit< tt in
    let power : 2 ^ n ≤ 268435456 = pow-le-pow_right two few in
    let same : 1 * 2 ^ n % 18446744073709551616 ≡ 1 * 2 ^ n = mod-eq_of_lt (omega arith) in
    rw same (omega arith)

-- a block has 16 places a sub-block
pub areas : (log2 : ℕ) → 2 ≤ log2 → 16 * (2 ^ (log2 - 2) * 2 ^ (log2 - 2)) ≡ 4 ^ log2
areas log2 some =
    let e : 2 + (log2 - 2) ≡ log2 = omega arith in
    subst (λ (k : ℕ). 16 * (2 ^ (log2 - 2) * 2 ^ (log2 - 2)) ≡ 4 ^ k) e
    (omega (arith, mul-pow 2 2 (log2 - 2), pow-add 4 2 (log2 - 2)))
