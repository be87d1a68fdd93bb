-- Runs of samples laid over lines.
use Rattle.std.proofs.Common.{◌≡◌, ℕ, Bool, true, false, ◌+◌, ◌-◌, ◌*◌, ◌%◌, ◌<◌, ◌≤◌, List, length, slice_set, ℤ}
use Rattle.std.proofs.Common.{pos}
use Rattle.std.proofs.Common.{slice_index_or, cond, nat_le, nat_lt, ◌&&◌, refl, ap, ◌∙◌, arith}
use Rattle.std.proofs.Common.{sym, ◌⊎◌, inl, inr}
use Rattle.std.specs.Prelude.{◌==◌}
use lib.Lanes.{put_chunk}
use Rattle.std.proofs.lemmas.Bool.{cases_lt}
use Rattle.std.proofs.lemmas.Simd.{get_or-put_chunk_below, get_or-put_chunk_at, get_or-put_chunk_above}
use Rattle.std.proofs.lemmas.Grind.{common_steps}
use Rattle.std.proofs.lemmas.Bool.Decides.{nat_tests}
use Rattle.std.proofs.Math.Nat.{mul-le-mul_left}
use Rattle.spec_sample_adaptive_offset.specs.Offsets.{band_index}
use Rattle.sao_filter.specs.Row.{at}
use Rattle.sao_filter.specs.Laying.{LaysLine, LaysLines, between}

-- one more sample of a run
pub one_more : (first k v : ℕ) (start before : List ℕ) (s : ℕ → ℕ) → first + k < length before → v ≡ s k →
    ((q : ℕ) → at before q ≡ cond (nat_le first q && nat_lt q (first + k)) (s (q - first)) (at start q)) →
    (q : ℕ) → at (slice_set before (first + k) v) q
    ≡ cond (nat_le first q && nat_lt q (first + (k + 1))) (s (q - first)) (at start q)
one_more first k v start before s room is told q =
    let t = told q in
    grind (arith, common_steps, nat_tests)

-- eight more samples of a run, of which the first may be there already
pub eight_more : (first k j : ℕ) (now before start : List ℕ) (s : ℕ → ℕ) → j ≤ k → k ≤ j + 8 →
    ((q : ℕ) → at before q ≡ cond (nat_le first q && nat_lt q (first + k)) (s (q - first)) (at start q)) →
    ((q : ℕ) → at now q ≡ cond (nat_le (first + j) q && nat_lt q (first + j + 8)) (s (q - first)) (at before q)) →
    (q : ℕ) → at now q ≡ cond (nat_le first q && nat_lt q (first + (j + 8))) (s (q - first)) (at start q)
eight_more first k j now before start s low high told wrote q =
    let t = told q in
    let w = wrote q in
    grind (arith, nat_tests)

-- eight numbers laid into a list, from a place on
laid_there : (from first : ℕ) (xs v : List ℕ) (s : ℕ → ℕ) (q : ℕ) → first ≤ from → from + 8 ≤ length xs → length v ≡ 8
    → ((i : ℕ) → i < 8 → at v i ≡ s (from + i - first)) → (q < from) ⊎ (from ≤ q) → (q < from + 8) ⊎ (from + 8 ≤ q)
    → at (put_chunk from xs v) q ≡ cond (nat_le from q && nat_lt q (from + 8)) (s (q - first)) (at xs q)
laid_there from first xs v s q le room long is (inl low) _ =
    let e = get_or-put_chunk_below from xs v q 0 low in
    grind (arith, nat_tests, e, low)
laid_there from first xs v s q le room long is (inr high) (inl low) =
    let back : from + (q - from) ≡ q = omega arith in
    let e : at (put_chunk from xs v) q ≡ s (q - first) = ap (λ (n : ℕ). at (put_chunk from xs v) n) (sym back)
    ∙ get_or-put_chunk_at from xs v (q - from) 0 (omega (arith, long)) (omega (arith, long))
    ∙ is (q - from) (omega arith)
    ∙ ap (λ (n : ℕ). s (n - first)) back in
    grind (arith, nat_tests, e, high, low)
laid_there from first xs v s q le room long is (inr high) (inr past) =
    let e = get_or-put_chunk_above from xs v q 0 (omega (arith, long)) in
    grind (arith, nat_tests, e, past)

pub eight_laid : (from first : ℕ) (xs v : List ℕ) (s : ℕ → ℕ) → first ≤ from → from + 8 ≤ length xs → length v ≡ 8
    → ((i : ℕ) → i < 8 → at v i ≡ s (from + i - first)) → (q : ℕ)
    → at (put_chunk from xs v) q ≡ cond (nat_le from q && nat_lt q (from + 8)) (s (q - first)) (at xs q)
eight_laid from first xs v s le room long is q =
    laid_there from first xs v s q le room long is (cases_lt q from) (cases_lt q (from + 8))

pub cond_same : (b c : Bool) (v w o : ℕ) → b ≡ c → (b ≡ true → v ≡ w) → cond b v o ≡ cond c w o
cond_same true true v w o e h = h refl
cond_same false false v w o e h = refl
cond_same true false v w o e h = cc
cond_same false true v w o e h = cc

-- the line after a line begins where it ends
pub line_below : (n a b : ℕ) → a < b → n * a + n ≤ n * b
line_below n a b lt = let le : n * (a + 1) ≤ n * b = mul-le-mul_left n (omega arith) in grind arith

run_test : (width line from to first count i j : ℕ) → first ≡ width * line + from → count + from ≡ to → to ≤ width →
    i < width →
    (nat_le first (width * j + i) && nat_lt (width * j + i) (first + count)) ≡ (j == line && between from to i)
run_test width line from to first count i j is many inside h =
    let up = line_below width j line in
    let down = line_below width line j in
    grind (arith, nat_tests)

-- a run of a line is some columns of it
pub line_of_run : (width line from to first count : ℕ) (new old : List ℕ) (s f : ℕ → ℕ) →
    first ≡ width * line + from → count + from ≡ to → to ≤ width →
    ((q : ℕ) → at new q ≡ cond (nat_le first q && nat_lt q (first + count)) (s (q - first)) (at old q)) →
    ((i : ℕ) → from ≤ i → i < to → s (i - from) ≡ f i) →
    LaysLine width line from to f old new
line_of_run width line from to first count new old s f is many inside wrote value i j h =
    let t = run_test width line from to first count i j is many inside h in
    let v : (nat_le first (width * j + i) && nat_lt (width * j + i) (first + count)) ≡ true
    → s (width * j + i - first) ≡ f i = λ yes.
    let lo : from ≤ i = grind (arith, nat_tests) in
    let hi : i < to = grind (arith, nat_tests) in
    let same : j ≡ line = grind (arith, nat_tests) in
    let e : width * j + i - first ≡ i - from = rw (same, is) (omega arith) in
    rw e (value i lo hi) in
    wrote (width * j + i) ∙ cond_same _ _ _ _ _ t v

-- one more line
pub lines_more : (width line from to : ℕ) (now before start : List ℕ) (f : ℕ → ℕ → ℕ) →
    LaysLine width line from to (λ i. f i line) before now → LaysLines width line from to f start before →
    LaysLines width (line + 1) from to f start now
lines_more width line from to now before start f wrote told i j h =
    let w = wrote i j h in
    let t = told i j h in
    grind (arith, nat_tests)

-- two parts of a line that stand beside one another
pub line_join : (width line from mid to : ℕ) (new now old : List ℕ) (f : ℕ → ℕ) → from ≤ mid → mid ≤ to →
    LaysLine width line from mid f old now → LaysLine width line mid to f now new
    → LaysLine width line from to f old new
line_join width line from mid to new now old f low high first second i j h =
    let w = first i j h in
    let t = second i j h in
    grind (arith, nat_tests)

-- one more entry of a table
pub table_more : (table : List ℤ) (k : ℕ) (v w : ℤ) (f : ℕ → ℤ) → k < length table → w ≡ v → v ≡ f k →
    ((q : ℕ) → q < k → slice_index_or table q (pos 0) ≡ f q) → (q : ℕ) → q < k + 1
    → slice_index_or (slice_set table k w) q (pos 0) ≡ f q
table_more table k v w f room same is told q low =
    let here : w ≡ f k = same ∙ is in
    let t : q < k → slice_index_or table q (pos 0) ≡ f q = λ h. told q h in
    grind (arith, common_steps)

-- bands are counted modulo 32
pub band_again : (position band : ℕ) → band_index position (band % 32) ≡ band_index position band
unfolding band_index
band_again position band =
    let e : (band % 32 + (32 - position % 32)) % 32 ≡ (band + (32 - position % 32)) % 32 = omega arith in
    ap (λ (k : ℕ). cond (nat_lt k 4) (k + 1) 0) e
