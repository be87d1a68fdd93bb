-- What a prediction holds, from its base.
use Rattle.std.proofs.Common.{◌≡◌, ◌∙◌, ℕ, ℤ, ◌+◌, ◌<◌, List, length, pos, ◌+ℤ◌, replicate}
use Rattle.std.proofs.Common.{inl, inr, arith}
use Rattle.std.proofs.Math.ListN.{get_or-eq_default}
use Rattle.std.proofs.lemmas.Int.{ints}
use Rattle.std.proofs.lemmas.Bool.{cases_lt}
use Rattle.std.proofs.lemmas.List.{get_or-map, get_or-replicate, length-map, length-replicate}
use Rattle.inter_pred.specs.Passes.{at, at_z, value_of, values}

pub value_at : (xs : List ℕ) (k : ℕ) → k < length xs → at_z (values xs) k ≡ value_of (at xs k)
value_at xs k lt = get_or-map (λ u. value_of u) xs k 0 (pos 0) lt

-- a place that was written 16896 above
pub value_is : (xs : List ℕ) (k : ℕ) (z : ℤ) → k < length xs → pos (at xs k) ≡ pos 16896 +ℤ z → at_z (values xs) k ≡ z
value_is xs k z lt e = let t = value_at xs k lt in omega (arith, ints, t, e)

pub sample_is : (xs : List ℕ) (k sample : ℕ) (z : ℤ) → k < length xs → at xs k ≡ 16896 + sample → pos sample ≡ z
    → at_z (values xs) k ≡ z
sample_is xs k sample z lt e f =
    let t = value_at xs k lt in
    let h : value_of (at xs k) ≡ pos sample = omega (arith, ints, e) in
    t ∙ h ∙ f

pub nothing_at : (n : ℕ) (xs : List ℕ) → xs ≡ replicate n 16896 → (k : ℕ) → at_z (values xs) k ≡ pos 0
nothing_at n xs e k = rw e (elim (cases_lt k n) [
  | inl lt ↦
      let t = value_at (replicate n 16896) k (omega (arith, lt, length-replicate {A = ℕ} n 16896)) in
      let u = get_or-replicate {A = ℕ} n k 16896 0 lt in omega (arith, ints, t, u)
  | inr le ↦ get_or-eq_default (values (replicate n 16896)) (pos 0)
      (omega (arith, le, length-replicate {A = ℕ} n 16896, length-map (replicate n 16896) (λ u. value_of u)))
])
