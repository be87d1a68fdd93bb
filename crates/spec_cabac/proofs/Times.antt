-- Steps one after the other, in a loop that has done i of n.
use Rattle.std.proofs.Common.{◌≡◌, ℕ, suc, ◌+◌, ◌-◌, ◌<◌, ◌≤◌, Result, Ok, Err, sym, ap, ◌∙◌, arith}
use Rattle.hv_base.specs.declared.breach.Breach.{Breach}
use Rattle.spec_formats.specs.Format.{bind}
use Rattle.spec_cabac.specs.Bins.{State, Tree, read, times}

module _ {X : Type 0} where
  times_none : (i n : ℕ) (step : ℕ → X → Tree X) (x : X) (s : State) → n ≡ 0 → read (times i n step x) s ≡ Ok (x, s)
  unfolding times
  times_none i n step x s e = ap (λ k. read (times i k step x) s) e

  times_some : (i n : ℕ) (step : ℕ → X → Tree X) (x : X) (s : State) → 0 < n
      → read (times i n step x) s ≡ bind (read (step i x) s) (λ y t. read (times (i + 1) (n - 1) step y) t)
  unfolding times
  times_some i n step x s some =
      let e : n ≡ suc (n - 1) = omega arith in
      ap (λ k. read (times i k step x) s) e

  pub times_goes_on : (step : ℕ → X → Tree X) (i n : ℕ) (x y : X) (s t : State) (total : Result (X × State) Breach)
      → i < n
      → read (step i x) s ≡ Ok (y, t) → read (times i (n - i) step x) s ≡ total
      → read (times (i + 1) (n - (i + 1)) step y) t ≡ total
  times_goes_on step i n x y s t total lt is so_far =
      let k : n - i - 1 ≡ n - (i + 1) = omega arith in
      let go = λ (r : Result (X × State) Breach). bind r (λ z u. read (times (i + 1) (n - i - 1) step z) u) in
      sym (times_some i (n - i) step x s (omega arith) ∙ ap go is ∙ ap (λ m. read (times (i + 1) m step y) t) k)
      ∙ so_far

  pub times_ends : (step : ℕ → X → Tree X) (i n : ℕ) (x : X) (s : State) (e : Breach)
      (total : Result (X × State) Breach)
      → i < n
      → read (step i x) s ≡ Err e → read (times i (n - i) step x) s ≡ total → total ≡ Err e
  times_ends step i n x s e total lt is so_far =
      let go = λ (r : Result (X × State) Breach). bind r (λ z u. read (times (i + 1) (n - i - 1) step z) u) in
      sym so_far ∙ times_some i (n - i) step x s (omega arith) ∙ ap go is

  pub times_done : (step : ℕ → X → Tree X) (i n : ℕ) (x : X) (s : State) (total : Result (X × State) Breach) → n ≤ i
      → read (times i (n - i) step x) s ≡ total → total ≡ Ok (x, s)
  times_done step i n x s total le so_far = sym so_far ∙ times_none i (n - i) step x s (omega arith)
