-- The bits of byte_alignment() and how they are read.
use Rattle.std.proofs.Common.{◌≡◌, ℕ, ◌+◌, ◌-◌, ◌*◌, ◌%◌, ◌^◌, ◌<◌, Bool, true, false, cond, Option, Some, List, ◌∷◌}
use Rattle.std.proofs.Common.{◌++◌, length, replicate, refl, sym, ap, ◌∙◌, arith}
use Rattle.std.specs.Prelude.{◌==◌}
use Rattle.std.proofs.Math.Nat.{zero-mod}
use Rattle.std.proofs.lemmas.Bool.{eqb-true, eq-eqb, false≢true}
use Rattle.std.proofs.lemmas.Option.{some_pair_parts}
use Rattle.std.proofs.lemmas.List.{length-append, length-replicate}
use Rattle.spec_bits.specs.Bits.{number_after, number_of, u_at}
use Rattle.spec_bits.specs.Alignment.{up_to_boundary, aligned_at}
use Rattle.spec_bits.specs.Spelling.{u_bits, aligned_bits}
use Rattle.spec_bits.proofs.Digits.{u_bits-zero, u_bits-number_of, number_after-u_bits, u_at-front, u_at-found}
use Rattle.spec_bits.proofs.Digits.{u_at-only}
use Rattle.spec_bits.proofs.Codes.{bind_some}

-- a 1 and zeros spell a power of 2
number_of-one_zeros : (count : ℕ) → number_of (true ∷ replicate count false) ≡ 2 ^ count
unfolding number_of
number_of-one_zeros count =
    let total = ap (number_after 1) (sym (u_bits-zero count)) ∙ number_after-u_bits 1 count 0 in
    let one : 1 * 2 ^ count + 0 % 2 ^ count ≡ 2 ^ count = omega (arith, zero-mod (2 ^ count)) in
    total ∙ one

pub u_bits-one_zeros : (count : ℕ) → u_bits (count + 1) (2 ^ count) ≡ true ∷ replicate count false
u_bits-one_zeros count =
    let long : length (true ∷ replicate count false) ≡ count + 1 = omega (arith, length-replicate count false) in
    ap (λ k. u_bits k (2 ^ count)) (sym long)
    ∙ ap (u_bits (length (true ∷ replicate count false))) (sym (number_of-one_zeros count))
    ∙ u_bits-number_of (true ∷ replicate count false)

-- reading them, where their count is what is left of the byte
aligned_from : (count : ℕ) (bs rest : List Bool) → up_to_boundary bs ≡ count + 1
    → bs ≡ (true ∷ replicate count false) ++ rest → aligned_at bs ≡ Some (true, rest)
unfolding aligned_at
aligned_from count bs rest places is =
    let long : length (true ∷ replicate count false) ≡ count + 1 = omega (arith, length-replicate count false) in
    let read = ap (u_at (count + 1)) is ∙ u_at-front (count + 1) (true ∷ replicate count false) rest long in
    let e : count + 1 - 1 ≡ count = omega arith in
    rw (places, read, number_of-one_zeros count, e, eq-eqb (2 ^ count) (2 ^ count) refl) refl

pub aligned_at-aligned_bits : (before : ℕ) (rest : List Bool) → length rest % 8 ≡ 0
    → aligned_at (aligned_bits before ++ rest) ≡ Some (true, rest)
unfolding aligned_bits up_to_boundary
aligned_at-aligned_bits before rest whole =
    let count = 7 - before % 8 in
    let bs : List Bool = (true ∷ replicate count false) ++ rest in
    let total : length bs ≡ count + 1 + length rest =
    omega (arith, length-append (replicate count false) rest, length-replicate count false) in
    let places : (length bs - 1) % 8 + 1 ≡ count + 1 = omega arith in
    aligned_from count bs rest places refl

aligned_if : (same : Bool) (after bs rest : List Bool)
    → cond {A = Option (Bool × List Bool)} same (Some (true, after)) (Some (false, bs)) ≡ Some (true, rest)
    → (same ≡ true) × (after ≡ rest)
aligned_if true after bs rest h = (refl, (some_pair_parts true true after rest h).1)
aligned_if false after bs rest h = absurd (false≢true (some_pair_parts false true bs rest h).0)

-- where it was read there was a 1, and zeros up to the end of a byte
pub aligned_at-only : (bs rest : List Bool) → aligned_at bs ≡ Some (true, rest)
    → (length rest % 8 ≡ 0) × ((before : ℕ) → (before + length bs) % 8 ≡ 0 → bs ≡ aligned_bits before ++ rest)
unfolding aligned_at up_to_boundary aligned_bits
aligned_at-only bs rest h =
    let count = (length bs - 1) % 8 in
    let read =
    bind_some (u_at (count + 1) bs)
    (λ found. cond (found.0 == 2 ^ (count + 1 - 1)) (Some (true, found.1)) (Some (false, bs))) (true, rest) h in
    let same = aligned_if (read.0.0 == 2 ^ (count + 1 - 1)) read.0.1 bs rest read.2 in
    let e : count + 1 - 1 ≡ count = omega arith in
    let value = eqb-true read.0.0 (2 ^ (count + 1 - 1)) same.0 ∙ ap (λ k. 2 ^ k) e in
    let enough = (u_at-found (count + 1) bs read.0.0 read.0.1 read.1).enough in
    let spelled =
    (u_at-only (count + 1) bs read.0.0 read.0.1 read.1).1 ∙ ap (λ v. u_bits (count + 1) v ++ read.0.1) value
    ∙ ap (λ x. x ++ read.0.1) (u_bits-one_zeros count) ∙ ap (λ x. (true ∷ replicate count false) ++ x) same.1 in
    let total : length bs ≡ count + 1 + length rest =
    omega (arith, ap length spelled, length-append (replicate count false) rest, length-replicate count false) in
    let some : 0 < length bs = omega (arith, enough) in (
      omega arith,
      λ before place. spelled
          ∙ ap (λ k. (true ∷ replicate k false) ++ rest) (let zeros : count ≡ 7 - before % 8 = omega arith in zeros),
    )
