-- Which items of a list stay, from the first one on.
use Rattle.std.proofs.Common.{◌≡◌, ℕ, zero, suc, ◌+◌, ◌<◌, ◌≤◌, true, false, Bool, List, [], ◌∷◌, ◌++◌, length, take}
use Rattle.std.proofs.Common.{get_or, refl, sym, ap, subst, ◌∙◌, append-nil, arith, add-one}
use Rattle.std.specs.Prelude.{if◌then◌else◌}
use Rattle.std.proofs.Math.Seq.{take-length, take-suc}
use Rattle.std.proofs.lemmas.List.{length-take-le}
use Rattle.spec_flights.specs.SpecDecoderDecoder.{is_among}
use Rattle.spec_flights.specs.References.{staying}

module _ {X : Type 0} (places : List ℕ) where
  pub staying_none : (n : ℕ) → staying {X = X} places n [] ≡ []
  unfolding staying
  staying_none n = refl

  -- what stays of items and of one behind them
  pub staying_more : (n : ℕ) (xs : List X) (x : X)
      → staying places n (xs ++ x ∷ [])
      ≡ (if is_among places (n + length xs) then staying places n xs ++ x ∷ [] else staying places n xs)
  unfolding staying
  staying_more n [] x =
      let same : n + 0 ≡ n = omega arith in
      ap (λ (m : ℕ). if is_among places m then x ∷ [] else []) (sym same)
  staying_more n (y ∷ xs) x =
      let later = staying_more (suc n) xs x in
      let at : suc n + length xs ≡ n + suc (length xs) = omega arith in
      by_both (is_among places n) (is_among places (n + suc (length xs)))
      (later ∙ ap (λ (m : ℕ). if is_among places m then staying places (suc n) xs ++ x ∷ []
      else staying places (suc n) xs) at)
    where
      by_both : (first last : Bool)
          → staying places (suc n) (xs ++ x ∷ [])
          ≡ (if last then staying places (suc n) xs ++ x ∷ [] else staying places (suc n) xs)
          → (if first then y ∷ staying places (suc n) (xs ++ x ∷ []) else staying places (suc n) (xs ++ x ∷ []))
          ≡ (if last
          then (if first then y ∷ staying places (suc n) xs else staying places (suc n) xs) ++ x ∷ []
          else (if first then y ∷ staying places (suc n) xs else staying places (suc n) xs))
      by_both true true e = ap (λ (ys : List X). y ∷ ys) e
      by_both true false e = ap (λ (ys : List X). y ∷ ys) e
      by_both false true e = e
      by_both false false e = e

  -- the next item is judged
  pub kept_next : (xs : List X) (i next : ℕ) (x : X) (old new : List X) → i < length xs → next ≡ i + 1
      → x ≡ get_or xs i x → old ≡ staying places 0 (take i xs)
      → new ≡ (if is_among places i then old ++ x ∷ [] else old) → new ≡ staying places 0 (take next xs)
  kept_next xs i next x old new inside step is was now =
      let le : i ≤ length xs = omega (arith, inside) in
      let many = length-take-le i xs le in
      let long : 0 + length (take i xs) ≡ i = omega (arith, many) in
      let more : take next xs ≡ take i xs ++ x ∷ [] =
      ap (λ (n : ℕ). take n xs) (step ∙ add-one i)
      ∙ (take-suc xs i x inside ∙ ap (λ (y : X). take i xs ++ y ∷ []) (sym is)) in
      now
      ∙ (ap (λ (ys : List X). if is_among places i then ys ++ x ∷ [] else ys) was
      ∙ (ap (λ (n : ℕ). if is_among places n then staying places 0 (take i xs) ++ x ∷ []
      else staying places 0 (take i xs)) (sym long)
      ∙ (sym (staying_more 0 (take i xs) x) ∙ ap (staying places 0) (sym more))))

  -- and one behind all of them
  pub kept_last : (xs : List X) (i : ℕ) (x : X) (old new : List X) → length xs ≤ i → i ≤ length xs
      → old ≡ staying places 0 (take i xs)
      → new ≡ (if is_among places (length xs) then old ++ x ∷ [] else old)
      → new ≡ staying places 0 (xs ++ x ∷ [])
  kept_last xs i x old new past within was now =
      let all : i ≡ length xs = omega (arith, past, within) in
      let none : length xs ≡ 0 + length xs = omega arith in
      let whole : old ≡ staying places 0 xs =
      was ∙ ap (staying places 0) (ap (λ (n : ℕ). take n xs) all ∙ take-length xs) in
      now
      ∙ (ap (λ (ys : List X). if is_among places (length xs) then ys ++ x ∷ [] else ys) whole
      ∙ (ap (λ (n : ℕ). if is_among places n then staying places 0 xs ++ x ∷ [] else staying places 0 xs) none
      ∙ sym (staying_more 0 xs x)))
