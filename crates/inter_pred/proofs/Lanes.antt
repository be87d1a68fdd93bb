-- Eight samples at once.
use Rattle.std.proofs.Common.{◌≡◌, ℕ, ◌+◌, ◌-◌, ◌<◌, ◌≤◌, cond, false, ltb, w16, min, map, List, length, get_or}
use Rattle.std.proofs.Common.{replicate, sym, ap, ◌∙◌, arith, ◌⊎◌, inl, inr}
use lib.Lanes.{zip2, chunk, sel_l, top, put_chunk}
use Rattle.std.proofs.lemmas.Bool.{cases_lt}
use Rattle.std.proofs.lemmas.Bool.Decides.{nat_tests}
use Rattle.std.proofs.lemmas.Simd.{length-chunk, get_or-chunk, length-zip2, get_or-zip2, tops_compared, length-sel_l}
use Rattle.std.proofs.lemmas.Simd.{get_or-sel_l, length-replicate, get_or-replicate, length-put_chunk}
use Rattle.std.proofs.lemmas.Simd.{get_or-put_chunk_below, get_or-put_chunk_at}
use Rattle.inter_pred.specs.Passes.{at}

-- v has eight lanes, and lane k holds x
pub record Lane (v : List ℕ) (k x : ℕ) : Type 0 where
  pub long : length v ≡ 8
  pub is : get_or v k 0 ≡ x

-- of a load
pub loaded : {k : ℕ} → k < 8 → (xs : List ℕ) (start : ℕ) → start + 8 ≤ length xs
    → Lane (chunk start 8 xs) k (get_or xs (start + k) 0)
loaded {k} lt xs start le = record {
  long = length-chunk start 8 xs le;
  is = get_or-chunk start 8 xs k 0 lt;
}

-- of one number in all lanes
pub splat : {k : ℕ} → k < 8 → (x : ℕ) → Lane (replicate 8 x) k x
splat {k} lt x = record { long = length-replicate 8 x; is = get_or-replicate 8 k x 0 lt }

-- of a choice by a comparison
chosen : {k : ℕ} → k < 8 → {xs ys us vs : List ℕ} {x y u v : ℕ} → Lane xs k x → Lane ys k y → Lane us k u → Lane vs k v
    → (z : ℕ) → cond (ltb x y) u v ≡ z
    → Lane (sel_l (map (top 15) (zip2 (λ a b. cond (ltb a b) 65535 0) xs ys)) us vs) k z
chosen {k} lt {xs} {ys} {us} {vs} {x} {y} {u} {v} p q r s z e =
    let is = ap (λ ms. sel_l ms us vs) (tops_compared w16 ltb xs ys) in
    let long = length-zip2 ltb xs ys (p.long ∙ sym q.long) ∙ p.long in
    record {
      long = ap length is ∙ length-sel_l (zip2 ltb xs ys) us vs (long ∙ sym r.long) (long ∙ sym s.long) ∙ long;
      is = ap (λ l. get_or l k 0) is
          ∙ get_or-sel_l (zip2 ltb xs ys) us vs k 0 (omega (arith, long)) (omega (arith, r.long))
          (omega (arith, s.long))
          ∙ ap (λ t. cond t (get_or us k 0) (get_or vs k 0))
          (get_or-zip2 ltb xs ys k 0 0 false (omega (arith, p.long)) (omega (arith, q.long)))
          ∙ ap (λ a. cond (ltb a (get_or ys k 0)) (get_or us k 0) (get_or vs k 0)) p.is
          ∙ ap (λ b. cond (ltb x b) (get_or us k 0) (get_or vs k 0)) q.is
          ∙ ap (λ a. cond (ltb x y) a (get_or vs k 0)) r.is
          ∙ ap (λ b. cond (ltb x y) u b) s.is ∙ e;
    }

least_is : (x y : ℕ) → cond (ltb x y) x y ≡ min x y
least_is x y = grind (arith, nat_tests)

-- of the lesser of two
pub least : {k : ℕ} → k < 8 → {xs ys : List ℕ} {x y : ℕ} → Lane xs k x → Lane ys k y
    → Lane (sel_l (map (top 15) (zip2 (λ a b. cond (ltb a b) 65535 0) xs ys)) xs ys) k (min x y)
least lt {x = x} {y = y} p q = chosen lt p q p q (min x y) (least_is x y)

-- the first k of a list are those of f
pub record Holds (f : ℕ → ℕ) (out : List ℕ) (k : ℕ) : Type 0 where
  pub within : k ≤ length out
  pub told : (j : ℕ) → j < k → at out j ≡ f j

told_more : (f : ℕ → ℕ) (out : List ℕ) (k : ℕ) (v : List ℕ) → Holds f out k → length v ≡ 8 → k + 8 ≤ length out
    → ((i : ℕ) → i < 8 → at v i ≡ f (k + i))
    → (j : ℕ) → j < k + 8 → (j < k) ⊎ (k ≤ j) → at (put_chunk k out v) j ≡ f j
told_more f out k v d long room new j lt (inl low) = get_or-put_chunk_below k out v j 0 low ∙ d.told j low
told_more f out k v d long room new j lt (inr high) =
    let i = j - k in
    let e : k + i ≡ j = omega arith in
    ap (at (put_chunk k out v)) (sym e)
    ∙ get_or-put_chunk_at k out v i 0 (omega (arith, long)) (omega (arith, long))
    ∙ new i (omega arith)
    ∙ ap f e

-- behind a store of eight
pub eight_more : (f : ℕ → ℕ) (out : List ℕ) (k : ℕ) (v : List ℕ) → Holds f out k → length v ≡ 8 → k + 8 ≤ length out
    → ((i : ℕ) → i < 8 → at v i ≡ f (k + i)) → Holds f (put_chunk k out v) (k + 8)
eight_more f out k v d long room new = record {
  within = omega (arith, length-put_chunk k out v);
  told = λ j lt. told_more f out k v d long room new j lt (cases_lt j k);
}
