-- Elements of lists that were joined, and of one in which an element was changed.
use Rattle.std.proofs.Common.{◌≡◌, ◌≢◌, ℕ, suc, zero, ◌+◌, ◌<◌, List, [], ◌∷◌, ◌++◌, Some, slice_get, slice_set}
use Rattle.std.proofs.Common.{length, take, drop, take-append-drop, refl, sym, ap, ◌∙◌, arith}
use Rattle.std.proofs.lemmas.Option.{none-some, same_Some}

module _ {X : Type 0} where
  pub front_at : (xs ys : List X) (k : ℕ) → k < length xs → slice_get (xs ++ ys) k ≡ slice_get xs k
  front_at [] ys k less = absurd (omega (arith, less))
  front_at (x ∷ xs) ys zero less = refl
  front_at (x ∷ xs) ys (suc k) less = front_at xs ys k (omega (arith, less))

  pub back_at : (xs ys : List X) (k n : ℕ) → n ≡ length xs + k → slice_get (xs ++ ys) n ≡ slice_get ys k
  back_at [] ys k n e = ap (slice_get ys) (omega (arith, e))
  back_at (x ∷ xs) ys k zero e = absurd (omega (arith, e))
  back_at (x ∷ xs) ys k (suc n) e = back_at xs ys k n (omega (arith, e))

  -- the parts of a list as one
  pub whole_of : (xs ys zs : List X) (n : ℕ) → ys ≡ take n xs → zs ≡ drop n xs → xs ≡ ys ++ zs
  whole_of xs ys zs n front back = sym (take-append-drop n xs) ∙ (λ i. sym front i ++ sym back i)

  pub set_at : (xs : List X) (k : ℕ) (x y : X) → slice_get (slice_set xs k x) k ≡ Some y → x ≡ y
  set_at [] k x y has = absurd (none-some y has)
  set_at (z ∷ xs) zero x y has = same_Some x y has
  set_at (z ∷ xs) (suc k) x y has = set_at xs k x y has

  pub set_apart : (xs : List X) (k i : ℕ) (x : X) → i ≢ k → slice_get (slice_set xs k x) i ≡ slice_get xs i
  set_apart [] k i x other = refl
  set_apart (z ∷ xs) zero zero x other = absurd (other refl)
  set_apart (z ∷ xs) zero (suc i) x other = refl
  set_apart (z ∷ xs) (suc k) zero x other = refl
  set_apart (z ∷ xs) (suc k) (suc i) x other = set_apart xs k i x (λ e. other (ap suc e))

  pub there : (xs : List X) (k : ℕ) → k < length xs → (x : X) × (slice_get xs k ≡ Some x)
  there [] k less = absurd (omega (arith, less))
  there (x ∷ xs) zero less = (x, refl)
  there (x ∷ xs) (suc k) less = there xs k (omega (arith, less))
