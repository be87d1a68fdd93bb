-- The coding tree units of a row: parts of one size, of which the second has 20 words more.
use Rattle.std.proofs.Common.{◌≡◌, ℕ, zero, suc, ◌+◌, ◌-◌, ◌*◌, ◌<◌, ◌≤◌, ◌==◌, Bool, cond, nat_lt, inl}
use Rattle.std.proofs.Common.{inr}
use Rattle.std.proofs.Common.{arith, ap, ◌∙◌}
use Rattle.std.proofs.lemmas.Bool.{cases_lt, lt-ltb, le-ltb, ne_eqb}
use Rattle.std.proofs.lemmas.Bool.Decides.{nat_tests}
use Rattle.std.proofs.Math.Nat.{mul-le-mul_right}
use Rattle.sample_words.specs.Words.{part_at, without_contexts}
use Rattle.sample_words.proofs.Parts.{chosen_most, found_part, in_part, next_part}

-- where the part of a column begins, and how many words more it has
abbrev pub begins : ℕ → ℕ → ℕ
begins size column = column * size + cond (nat_lt 1 column) 20 0

abbrev pub more_words : ℕ → ℕ
more_words column = cond (column == 1) 20 0

abbrev pub column_of : ℕ → ℕ → ℕ → ℕ
column_of size count offset = part_at size count (without_contexts size offset)

pub begins_low : (size column : ℕ) → column < 2 → begins size column ≡ column * size
begins_low size column low =
    ap (λ (b : Bool). column * size + cond b 20 0) (le-ltb 1 column (omega arith))
    ∙ (let e : column * size + 0 ≡ column * size = omega arith in e)

pub begins_high : (size column : ℕ) → 2 ≤ column → begins size column ≡ column * size + 20
begins_high size column high = ap (λ (b : Bool). column * size + cond b 20 0) (lt-ltb 1 column (omega arith))

pub begins_most : (size column : ℕ) → begins size column ≤ column * size + 20
begins_most size column = let m = chosen_most (nat_lt 1 column) 20 in omega arith

begins_least : (size column : ℕ) → column * size ≤ begins size column
begins_least size column = omega arith

-- only the second column has more words
no_more : (column : ℕ) → 2 ≤ column → more_words column ≡ 0
no_more column two = ap (λ (b : Bool). cond b 20 0) (ne_eqb column 1 (λ h. absurd (omega arith)))

low : (size offset : ℕ) → offset < 2 * size → without_contexts size offset ≡ offset
low size offset lt = grind (arith, nat_tests)

middle : (size offset : ℕ) → 2 * size ≤ offset → offset < 2 * size + 20 → without_contexts size offset ≡ 2 * size - 1
middle size offset le lt = grind (arith, nat_tests)

high : (size offset : ℕ) → 2 * size + 20 ≤ offset → without_contexts size offset ≡ offset - 20
high size offset le = grind (arith, nat_tests)

-- a column whose words may follow those of the first two
from_two : (size count column i : ℕ) → 0 < size → column < count → (column + 1 < count → i < size) → 2 ≤ column
    → column_of size count (begins size column + i) ≡ column
from_two size count column i some below inside two =
    let le : 2 * size ≤ column * size = mul-le-mul_right size two in
    let b = begins_high size column two in
    let e : without_contexts size (begins size column + i) ≡ column * size + i =
    high size (begins size column + i) (omega arith) ∙ omega arith in
    ap (part_at size count) e ∙ found_part size count column i some below inside

-- the second one
second : (size count i : ℕ) → 0 < size → 1 < count → (2 < count → i < size + 20)
    → column_of size count (1 * size + i) ≡ 1
second size count i some below inside = elim (cases_lt i size) [
  | inl lt ↦
      ap (part_at size count) (low size (1 * size + i) (omega arith))
      ∙ found_part size count 1 i some below (λ _. lt)
  | inr le ↦ elim (cases_lt i (size + 20)) [
    | inl lt ↦
        let e : 2 * size - 1 ≡ 1 * size + (size - 1) = omega arith in
        ap (part_at size count) (middle size (1 * size + i) (omega arith) (omega arith) ∙ e)
        ∙ found_part size count 1 (size - 1) some below (λ _. omega arith)
    | inr far ↦
        let e : 1 * size + i - 20 ≡ 1 * size + (i - 20) = omega arith in
        ap (part_at size count) (high size (1 * size + i) (omega arith) ∙ e)
        ∙ found_part size count 1 (i - 20) some below (λ h. let lt = inside h in omega arith)
  ]
]

-- the first one
first : (size count i : ℕ) → 0 < size → 0 < count → (1 < count → i < size) → column_of size count i ≡ 0
first size count i some below inside = elim (cases_lt 1 count) [
  | inl more ↦
      let lt = inside more in
      let e : i ≡ 0 * size + i = omega arith in
      ap (part_at size count) (low size i (omega arith) ∙ e) ∙ found_part size count 0 i some below (λ _. lt)
  | inr one ↦ omega arith
]

pub found_column : (size count column i : ℕ) → 0 < size → column < count
    → (column + 1 < count → i < size + more_words column)
    → column_of size count (begins size column + i) ≡ column
found_column size count zero i some below inside =
    let b : begins size 0 + i ≡ i = omega arith in
    ap (column_of size count) b
    ∙ first size count i some below (λ h. let lt = inside (omega arith) in omega arith)
found_column size count (suc zero) i some below inside =
    let b : begins size 1 + i ≡ 1 * size + i = omega arith in
    ap (column_of size count) b
    ∙ second size count i some below (λ h. let lt = inside (omega arith) in omega arith)
found_column size count (suc (suc n)) i some below inside =
    let m = no_more (suc (suc n)) (omega arith) in
    from_two size count (suc (suc n)) i some below (λ h. let lt = inside h in omega arith) (omega arith)

-- a column ends where the next one begins
pub next_begins : (size column : ℕ) → begins size column + (size + more_words column) ≡ begins size (column + 1)
next_begins size zero = omega arith
next_begins size (suc zero) = omega arith
next_begins size (suc (suc n)) =
    let column : ℕ = suc (suc n) in
    let m = no_more column (omega arith) in
    let b = begins_high size column (omega arith) in
    let c = begins_high size (column + 1) (omega arith) in
    let e = next_part column size in
    omega arith

later : (size a b : ℕ) → a ≤ b → begins size a ≤ begins size b
later size a b le =
    let m : a * size ≤ b * size = mul-le-mul_right size le in
    elim (cases_lt a 2) [
      | inl low ↦ let e = begins_low size a low in let f = begins_least size b in omega arith
      | inr high ↦
          let e = begins_high size a high in
          let f = begins_high size b (omega arith) in
          omega arith
    ]

-- what stands in a column stands before the end of the row
pub below_columns : (size count column last i : ℕ) → column < count
    → (column + 1 < count → i < size + more_words column) → (column + 1 ≡ count → i < last)
    → begins size column + i < begins size (count - 1) + last
below_columns size count column last i below inside end = elim (cases_lt (column + 1) count) [
  | inl more ↦
      let lt = inside more in
      let n = next_begins size column in
      let le = later size (column + 1) (count - 1) (omega arith) in
      omega arith
  | inr none ↦
      let e : column ≡ count - 1 = omega arith in
      let lt = end (omega arith) in
      let b = ap (begins size) e in
      omega arith
]

few : (size column x : ℕ) → column * size ≤ x → x < 2 * size → column < 2
few size column x le lt = elim (cases_lt column 2) [
  | inl less ↦ less
  | inr two ↦ let m : 2 * size ≤ column * size = mul-le-mul_right size two in absurd (omega arith)
]

-- the column that has an offset
pub record IsInColumn (size count last offset : ℕ) : Type 0 where
  pub column : column_of size count offset < count
  pub start : begins size (column_of size count offset) ≤ offset
  pub inside : column_of size count offset + 1 < count
      → offset - begins size (column_of size count offset) < size + more_words (column_of size count offset)
  pub end : column_of size count offset + 1 ≡ count
      → offset - begins size (column_of size count offset) < last

-- where it begins: the three kinds of offsets
begins_before : (size count offset column : ℕ) → 0 < size → column * size ≤ without_contexts size offset
    → begins size column ≤ offset
begins_before size count offset column some le = elim (cases_lt offset (2 * size)) [
  | inl lt ↦
      let w = low size offset lt in
      let c = few size column offset (omega arith) lt in
      let b = begins_low size column c in
      omega arith
  | inr le2 ↦ elim (cases_lt offset (2 * size + 20)) [
    | inl lt ↦
        let w = middle size offset le2 lt in
        let c = few size column (2 * size - 1) (omega arith) (omega arith) in
        let b = begins_low size column c in
        omega arith
    | inr far ↦ let w = high size offset far in let b = begins_most size column in omega arith
  ]
]

-- where it ends, unless it is the last
ends_behind : (size offset column : ℕ) → 0 < size → column * size ≤ without_contexts size offset
    → without_contexts size offset - column * size < size
    → offset - begins size column < size + more_words column
ends_behind size offset column some le lt = elim (cases_lt offset (2 * size)) [
  | inl less ↦
      let w = low size offset less in
      let c = few size column offset (omega arith) less in
      let b = begins_low size column c in
      omega arith
  | inr le2 ↦ elim (cases_lt offset (2 * size + 20)) [
    | inl less ↦
        let w = middle size offset le2 less in
        let c = few size column (2 * size - 1) (omega arith) (omega arith) in
        let b = begins_low size column c in
        let one : 1 ≤ column = elim (cases_lt column 1) [
          | inl none ↦
              let n : column ≡ 0 = omega arith in
              let z : column * size ≡ 0 * size = ap (λ (k : ℕ). k * size) n in
              absurd (omega arith)
          | inr enough ↦ enough
        ] in
        let same : column ≡ 1 = omega arith in
        let m : more_words column ≡ more_words 1 = ap more_words same in
        let e : column * size ≡ 1 * size = ap (λ (k : ℕ). k * size) same in
        omega arith
    | inr far ↦
        let w = high size offset far in
        let two : 2 ≤ column = elim (cases_lt column 2) [
          | inl less ↦
              let m : column * size ≤ 1 * size = mul-le-mul_right size (omega arith) in absurd (omega arith)
          | inr enough ↦ enough
        ] in
        let b = begins_high size column two in
        omega arith
  ]
]

pub in_column : (size count last offset : ℕ) → 0 < size → 0 < count → offset < begins size (count - 1) + last
    → IsInColumn size count last offset
in_column size count last offset some parts below =
    let x : ℕ = without_contexts size offset in
    let is = in_part size count (x + 1) x some parts (omega arith) in
    record {
      column = is.part;
      start = begins_before size count offset (column_of size count offset) some is.start;
      inside = λ more. ends_behind size offset (column_of size count offset) some is.start (is.inside more);
      end = λ e.
          let same : column_of size count offset ≡ count - 1 = omega (arith, e) in
          let b = ap (begins size) same in
          let s = begins_before size count offset (column_of size count offset) some is.start in
          omega arith;
    }
