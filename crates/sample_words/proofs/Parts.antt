-- Parts of one size, one behind the other.
use Rattle.std.proofs.Common.{◌≡◌, ℕ, zero, suc, ◌+◌, ◌-◌, ◌*◌, ◌/◌, ◌<◌, ◌≤◌, Bool, true, false, cond, inl}
use Rattle.std.proofs.Common.{inr}
use Rattle.std.proofs.Common.{ap, ◌∙◌, arith}
use Rattle.std.proofs.lemmas.Bool.{cases_lt}
use Rattle.std.proofs.lemmas.Nat.{div-mul-add, le-div, mod_below, div-add-mod'}
use Rattle.std.proofs.Math.Nat.{mul-le-mul_right}
use Rattle.sample_words.specs.Words.{part_at}

-- an offset in a part is found there; the last part has all offsets from its start on
pub found_part : (size count k i : ℕ) → 0 < size → k < count → (k + 1 < count → i < size)
    → part_at size count (k * size + i) ≡ k
found_part size count k i some below inside = elim (cases_lt (k + 1) count) [
  | inl more ↦ let lt = inside more in let e = div-mul-add k size i lt in omega arith
  | inr last ↦ let le = le-div k (k * size + i) size some (omega arith) in omega arith
]

-- the part that has an offset
pub record IsInPart (size count last offset : ℕ) : Type 0 where
  pub part : part_at size count offset < count
  pub start : part_at size count offset * size ≤ offset
  pub inside : part_at size count offset + 1 < count → offset - part_at size count offset * size < size
  pub end : part_at size count offset + 1 ≡ count → offset - part_at size count offset * size < last

pub in_part : (size count last offset : ℕ) → 0 < size → 0 < count → offset < (count - 1) * size + last
    → IsInPart size count last offset
in_part size count last offset some parts below =
    let whole = div-add-mod' offset size in
    let rest = mod_below offset size some in
    elim (cases_lt (offset / size) (count - 1)) [
      | inl less ↦
          let e : part_at size count offset ≡ offset / size = omega arith in
          let m : part_at size count offset * size ≡ offset / size * size = ap (λ (k : ℕ). k * size) e in
          record { part = omega arith; start = omega arith; inside = λ _. omega arith; end = λ h. absurd (omega arith) }
      | inr more ↦
          let e : part_at size count offset ≡ count - 1 = omega arith in
          let m : part_at size count offset * size ≡ (count - 1) * size = ap (λ (k : ℕ). k * size) e in
          let le : (count - 1) * size ≤ offset / size * size = mul-le-mul_right size more in
          record { part = omega arith; start = omega arith; inside = λ h. absurd (omega arith); end = λ _. omega arith }
    ]

-- one part more
pub next_part : (k size : ℕ) → (k + 1) * size ≡ k * size + size
next_part k size = omega arith

pub last_part : (count size : ℕ) → 1 ≤ count → (count - 1) * size + size ≡ count * size
last_part zero size some = absurd (omega arith)
last_part (suc n) size some =
    let e : suc n - 1 ≡ n = omega arith in
    let f : suc n * size ≡ n * size + size = omega arith in
    ap (λ (k : ℕ). k * size + size) e ∙ (let g : n * size + size ≡ suc n * size = omega arith in g)

-- a choice of a number or none
pub chosen_most : (b : Bool) (n : ℕ) → cond b n 0 ≤ n
chosen_most b n = elim b as (λ v. cond v n 0 ≤ n) [ true ↦ omega arith | false ↦ omega arith ]
