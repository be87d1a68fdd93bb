-- A code that is read in the words of 9.2.
use Rattle.std.proofs.Common.{◌≡◌, ℕ, ◌+◌, ◌-◌, ◌^◌, ◌<◌, Bool, true, false, cond, Option, Some, None, List, [], ◌∷◌}
use Rattle.std.proofs.Common.{◌++◌, length, replicate, take, drop, ◌⊎◌, inl, inr, ⊎_elim, refl, sym, ap, ◌∙◌, arith}
use Rattle.std.specs.Prelude.{nat_lt}
use Rattle.std.proofs.lemmas.Nat.{pow_pos}
use Rattle.std.proofs.lemmas.List.{append_assoc, take-append-drop, length-append, length-replicate, length-take-le}
use Rattle.std.proofs.lemmas.Bool.{cases_lt}
use Rattle.spec_bits.specs.Bits.{number_of, u_at, ◌>>=◌}
use Rattle.spec_bits.specs.ExpGolomb.{leading_zero_bits, ue_at, code_num_at}
use Rattle.spec_bits.proofs.Digits.{u_at-short, u_at-front, number_of-one}
use Rattle.spec_bits.proofs.Codes.{take-leading_zero_bits, drop-leading_zero_bits}

abbrev by_number : ℕ → List Bool → Option (ℕ × List Bool)
by_number count bs = u_at count bs >>= λ prefix. u_at (count + 1) prefix.1 >>= λ code. Some (code.0 - 1, code.1)

abbrev by_suffix : ℕ → List Bool → Option (ℕ × List Bool)
by_suffix count bs =
    u_at (count + 1) bs >>= λ prefix. u_at count prefix.1 >>= λ suffix. Some (2 ^ count - 1 + suffix.0, suffix.1)

-- no 1 follows the zeros
same_at_end : (count : ℕ)
    → by_number count (replicate count false ++ []) ≡ by_suffix count (replicate count false ++ [])
same_at_end count =
    let zeros = replicate count false in
    let total : length (zeros ++ []) < count + 1 =
    omega (arith, length-append zeros [], length-replicate count false) in
    let none : 0 < count + 1 = omega arith in
    rw (
      u_at-front count zeros [] (length-replicate count false),
      u_at-short (count + 1) [] none,
      u_at-short (count + 1) (zeros ++ []) total,
    )
    refl

-- the bits after the 1 are too few
same_where_short : (count : ℕ) (more : List Bool) → length more < count
    → by_number count (replicate count false ++ true ∷ more) ≡ by_suffix count (replicate count false ++ true ∷ more)
same_where_short count more h =
    let zeros = replicate count false in
    let split : zeros ++ true ∷ more ≡ (zeros ++ true ∷ []) ++ more = sym (append_assoc zeros (true ∷ []) more) in
    let front : length (zeros ++ true ∷ []) ≡ count + 1 =
    omega (arith, length-append zeros (true ∷ []), length-replicate count false) in
    let prefix = ap (u_at (count + 1)) split ∙ u_at-front (count + 1) (zeros ++ true ∷ []) more front in
    let few : length (true ∷ more) < count + 1 = omega arith in
    rw (
      prefix,
      u_at-front count zeros (true ∷ more) (length-replicate count false),
      u_at-short (count + 1) (true ∷ more) few,
      u_at-short count more h,
    )
    refl

same_code : (count : ℕ) (suffix rest : List Bool) → length suffix ≡ count
    → by_number count (replicate count false ++ true ∷ (suffix ++ rest))
    ≡ by_suffix count (replicate count false ++ true ∷ (suffix ++ rest))
same_code count suffix rest h =
    let zeros = replicate count false in
    let split : zeros ++ true ∷ (suffix ++ rest) ≡ (zeros ++ true ∷ []) ++ (suffix ++ rest) =
    sym (append_assoc zeros (true ∷ []) (suffix ++ rest)) in
    let front : length (zeros ++ true ∷ []) ≡ count + 1 =
    omega (arith, length-append zeros (true ∷ []), length-replicate count false) in
    let prefix = ap (u_at (count + 1)) split ∙ u_at-front (count + 1) (zeros ++ true ∷ []) (suffix ++ rest) front in
    let longer : length (true ∷ suffix) ≡ count + 1 = omega arith in
    let some = pow_pos count in
    let value : number_of (true ∷ suffix) - 1 ≡ 2 ^ count - 1 + number_of suffix =
    omega (arith, number_of-one suffix, ap (λ k. 2 ^ k) h) in
    rw (
      prefix,
      u_at-front count zeros (true ∷ (suffix ++ rest)) (length-replicate count false),
      u_at-front (count + 1) (true ∷ suffix) rest longer,
      u_at-front count suffix rest h,
    )
    (ap (λ v. Some (v, rest)) value)

same_with_one : (count : ℕ) (more : List Bool)
    → by_number count (replicate count false ++ true ∷ more) ≡ by_suffix count (replicate count false ++ true ∷ more)
same_with_one count more = ⊎_elim
    (λ short. same_where_short count more short)
    (λ long. rw (← take-append-drop count more)
    (same_code count (take count more) (drop count more) (length-take-le count more long)))
    (cases_lt (length more) count)

same_after : (count : ℕ) (tail : List Bool) → (tail ≡ []) ⊎ ((more : List Bool) × (tail ≡ true ∷ more))
    → by_number count (replicate count false ++ tail) ≡ by_suffix count (replicate count false ++ tail)
same_after count tail (inl none) = rw none (same_at_end count)
same_after count tail (inr one) = rw one.1 (same_with_one count one.0)

pub ue_at-code_num_at : (bs : List Bool) → ue_at bs ≡ code_num_at bs
unfolding ue_at code_num_at
ue_at-code_num_at bs =
    let count = leading_zero_bits bs in
    let split : bs ≡ replicate count false ++ drop count bs =
    sym (take-append-drop count bs) ∙ ap (λ x. x ++ drop count bs) (take-leading_zero_bits bs) in
    let same : by_number count bs ≡ by_suffix count bs =
    ap (by_number count) split ∙ same_after count (drop count bs) (drop-leading_zero_bits bs)
    ∙ ap (by_suffix count) (sym split) in
    ap (λ o. cond (nat_lt 31 count) None o) same
