-- What places keep of their own.
use Rattle.std.proofs.Common.{◌≡◌, ℕ, ◌+◌, ◌*◌, ◌<◌, ◌≤◌, ◌==◌, ◌&&◌, cond, nat_le, nat_lt, List, get_or, arith}
use Rattle.std.proofs.lemmas.Bool.Decides.{nat_tests}
use Rattle.std.proofs.Math.Nat.{mul-le-mul_left}
use Rattle.place_grid.specs.Cells.{Cells, cell}

abbrev made : {X : Type 0} → ℕ → ℕ → List X → Cells X
made across down cells = record { across = across; down = down; cells = cells }

-- a row begins where the row above ends
row_below : (n a b : ℕ) → a < b → n * a + n ≤ n * b
row_below n a b lt = let le : n * (a + 1) ≤ n * b = mul-le-mul_left n (omega arith) in grind arith

-- the last place of a part of a row has a cell
pub has_cell : (across down x y count room : ℕ) → x + count ≤ across → y < down → across * down ≤ room
    → across * y + x + count ≤ room
has_cell across down x y count room columns row all =
    let le = row_below across y down row in omega (arith, le, columns, all)

-- one value over a part of a row
pub run_at : {X : Type 0} (across down x y count : ℕ) (old new : List X) (value outside : X)
    → x + count ≤ across → y < down
    → ((q : ℕ) → get_or new q outside
    ≡ cond (nat_le (across * y + x) q && nat_lt q (across * y + x + count)) value (get_or old q outside))
    → (i j : ℕ) → cell outside (made across down new) i j
    ≡ cond (j == y && (nat_le x i && nat_lt i (x + count))) value (cell outside (made across down old) i j)
unfolding cell
run_at across down x y count old new value outside room hy told i j =
    let t = told (across * j + i) in
    let above = row_below across j y in
    let below = row_below across y j in
    grind (arith, nat_tests)
