-- Places of rows in a list.
use Rattle.std.proofs.Common.{◌≡◌, ℕ, ◌+◌, ◌*◌, ◌<◌, ◌≤◌, ◌==◌, ◌&&◌, ◌||◌, false, true, List, length, slice_set}
use Rattle.std.proofs.Common.{arith}
use Rattle.std.proofs.Common.{Bool, inl, inr}
use Rattle.std.proofs.Math.Nat.{mul-le-mul_right}
use Rattle.std.proofs.lemmas.Bool.{cases_lt}
use Rattle.std.proofs.lemmas.Bool.Decides.{nat_tests}
use Rattle.std.proofs.lemmas.List.{get_or-set_other, get_or-set_same}
use Rattle.flight_windows.specs.Seen.{SeenFlags, has_row, is_seen}

-- a row begins behind the rows before it
row_behind : (rows a b : ℕ) → a < b → a * rows + rows ≤ b * rows
row_behind rows a b less = let le : (a + 1) * rows ≤ b * rows = mul-le-mul_right rows (omega arith) in grind arith

pub place_inside : (pictures rows j r : ℕ) → j < pictures → r < rows → j * rows + r < pictures * rows
place_inside pictures rows j r hj hr =
    let le = row_behind rows j pictures hj in omega (arith, le, hr)

-- rows of different pictures have places of their own
rows_apart : (rows j r a b : ℕ) → r < rows → b < rows → j * rows + r ≡ a * rows + b → j ≡ a
rows_apart rows j r a b hr hb e = elim (cases_lt j a) [
  | inl less ↦ let le = row_behind rows j a less in absurd (omega (arith, le, e, hr, hb))
  | inr past ↦ elim (cases_lt a j) [
    | inl more ↦ let le = row_behind rows a j more in absurd (omega (arith, le, e, hr, hb))
    | inr same ↦ omega (arith, past, same)
  ]
]

abbrev made : ℕ → ℕ → List Bool → SeenFlags
made pictures rows flags = record { pictures = pictures; rows = rows; flags = flags }

-- a row that is marked leaves all others
pub marked : (pictures rows a b : ℕ) (flags : List Bool) → length flags ≡ pictures * rows → a < pictures → b < rows
    → (j r : ℕ) → is_seen (made pictures rows (slice_set flags (a * rows + b) true)) j r
    ≡ (is_seen (made pictures rows flags) j r || (has_row (made pictures rows flags) a b && (j == a && r == b)))
unfolding is_seen
marked pictures rows a b flags count ha hb j r =
    let inside : a * rows + b < length flags = omega (arith, place_inside pictures rows a b ha hb, count) in
    let same = get_or-set_same flags (a * rows + b) true false inside in
    let other = get_or-set_other flags (a * rows + b) (j * rows + r) true false in
    let apart = rows_apart rows j r a b in
    grind (arith, nat_tests)
