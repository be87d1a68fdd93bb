-- Values by column and row.
use Rattle.std.proofs.Common.{◌≡◌, refl, ℕ, zero, suc, ◌+◌, ◌-◌, ◌*◌, ◌<◌, ◌≤◌, ◌==◌, ◌&&◌, cond, min, nat_le, nat_lt}
use Rattle.std.proofs.Common.{List, inl, inr, length, get_or, take, drop, slice_set, replicate, ap, ◌∙◌, arith}
use Rattle.std.proofs.lemmas.Bool.{cases_lt}
use Rattle.std.proofs.lemmas.Bool.Decides.{nat_tests}
use Rattle.std.proofs.lemmas.List.{get_or-set_same, get_or-set_other, get_or-take, get_or-drop, get_or_default}
use Rattle.std.proofs.Math.Nat.{mul-le-mul_left}
use Rattle.place_grid.specs.Cells.{Cells, cell}

abbrev made : {X : Type 0} → ℕ → ℕ → List X → Cells X
made across down cells = record { across = across; down = down; cells = cells }

-- a row begins where the row above ends
row_below : (n a b : ℕ) → a < b → n * a + n ≤ n * b
row_below n a b lt = let le : n * (a + 1) ≤ n * b = mul-le-mul_left n (omega arith) in grind arith

-- values of different rows or columns have places of their own
cells_differ : (n x y i j : ℕ) → x < n → i < n → n * j + i ≡ n * y + x → j ≡ y
cells_differ n x y i j hx hi e = elim (cases_lt j y) [
  | inl lt ↦ let le = row_below n j y lt in absurd (omega (arith, le, e, hi))
  | inr le ↦ elim (cases_lt y j) [
    | inl lt ↦ let more = row_below n y j lt in absurd (omega (arith, more, e, hx))
    | inr same ↦ omega arith
  ]
]

-- a value that is put leaves all others
pub put_at : {X : Type 0} (across down x y : ℕ) (cells : List X) (value outside : X) → length cells ≡ across * down
    → x < across → y < down
    → (i j : ℕ) → cell outside (made across down (slice_set cells (across * y + x) value)) i j
    ≡ cond (i == x && j == y) value (cell outside (made across down cells) i j)
unfolding cell
put_at across down x y cells value outside count hx hy i j =
    let row = row_below across y down hy in
    let inside : across * y + x < length cells = omega (arith, row, count) in
    let same = get_or-set_same cells (across * y + x) value outside inside in
    let other = get_or-set_other cells (across * y + x) (across * j + i) value outside in
    let apart = cells_differ across x y i j hx in
    grind (arith, nat_tests)

-- and a value that is put over a part of a row
pub run_at : {X : Type 0} (across down x y count : ℕ) (old new : List X) (value outside : X)
    → length old ≡ across * down → x + count ≤ across → y < down
    → ((q : ℕ) → get_or new q outside
    ≡ cond (nat_le (across * y + x) q && nat_lt q (across * y + x + count)) value (get_or old q outside))
    → (wide high : ℕ) → wide ≡ across → high ≡ down
    → (i j : ℕ) → cell outside (made wide high new) i j
    ≡ cond (j == y && (nat_le x i && nat_lt i (x + count))) value (cell outside (made across down old) i j)
unfolding cell
run_at across down x y count old new value outside all room hy told wide high w h i j =
    let t = told (across * j + i) in
    let above = row_below across j y in
    let below = row_below across y j in
    grind (arith, nat_tests)

one_value : {X : Type 0} (n i : ℕ) (value : X) → get_or (replicate n value) i value ≡ value
one_value zero i value = refl
one_value (suc n) zero value = refl
one_value (suc n) (suc i) value = one_value n i value

-- all values are that one
pub filled_at : {X : Type 0} (across down n : ℕ) (cells : List X) (value : X) → cells ≡ replicate n value
    → (x y : ℕ) → cell value (made across down cells) x y ≡ value
unfolding cell
filled_at across down n cells value e x y =
    let t = one_value n (across * y + x) value in rw e (grind (arith, nat_tests))

-- a value of a part of a list
part_at : {X : Type 0} (from count k : ℕ) (xs : List X) (other : X) → k < count
    → get_or (take count (drop from xs)) k other ≡ get_or xs (from + k) other
part_at from count k xs other lt = get_or-take count (drop from xs) k other lt ∙ get_or-drop from xs k other

-- the values of rows one below the other
pub rows_at : {X : Type 0} (across down from lines first count : ℕ) (cells : List X) (other outside : X)
    → length cells ≡ across * down
    → from ≡ min first down → lines ≡ min count (down - from)
    → (x j : ℕ) → x < across → j < count → first + j < down
    → get_or (take (across * from + across * lines - across * from) (drop (across * from) cells)) (across * j + x) other
    ≡ cell outside (made across down cells) x (first + j)
unfolding cell
rows_at across down from lines first count cells other outside all f l x j hx few hj =
    let same : from ≡ first = omega (arith, f, hj) in
    let lt : j < lines = omega (arith, f, l, few, hj) in
    let below = row_below across j lines lt in
    let t =
    part_at (across * from) (across * from + across * lines - across * from) (across * j + x) cells other
    (omega (arith, below, hx)) in
    let place : across * from + (across * j + x) ≡ across * (first + j) + x = rw same (grind arith) in
    let e = ap (λ (n : ℕ). get_or cells n other) place in
    let room = row_below across (first + j) down hj in
    let d = get_or_default cells (across * (first + j) + x) other outside (omega (arith, room, all, hx)) in
    grind (arith, nat_tests)
