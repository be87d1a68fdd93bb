-- Tables in a second form.
use Rattle.std.specs.Prelude.{ℕ, ◌+◌, ◌-◌, ◌*◌, ◌/◌, ◌%◌, ◌^◌, Bool, ◌&&◌, nat_lt, nat_le, List, [], ◌∷◌, ◌++◌}
use Rattle.std.specs.Prelude.{map, replicate, slice_index_or, if◌then◌else◌}
use Rattle.std.specs.List.{range_with_len}
use Rattle.block_geometry.specs.declared.kind.Scan.TheVariants.{Diagonal}
use Rattle.block_geometry.specs.Scans.{scan_order}

-- sigCtx of a place of a block of 4x4, row by row
unfoldable pub context_by_quarter : ℕ → ℕ
context_by_quarter place =
    let x : ℕ = place % 4 in
    let y : ℕ = place / 4 in
    if nat_lt x 2 then (if nat_lt y 2 then 2 * y + x else 4 + y) else (if nat_lt y 2 then 2 + x else 8)

-- beta' by Q: 0 below 16, then 6 and one more at each step, then 20 and two more from 29 on
unfoldable pub beta_by_rule : ℕ → ℕ
beta_by_rule q = if nat_lt q 16 then 0 else (if nat_le q 28 then q - 10 else 2 * q - 38)

-- each of the values of tC', and for how many Q it stands
unfoldable pub tc_steps : List (ℕ × ℕ)
tc_steps =
    (0, 18) ∷ (1, 9) ∷ (2, 4) ∷ (3, 4) ∷ (4, 3) ∷ (5, 2) ∷ (6, 2) ∷ (7, 1) ∷ (8, 1) ∷ (9, 1) ∷ (10, 1) ∷ (11, 1)
    ∷ (13, 1) ∷ (14, 1) ∷ (16, 1) ∷ (18, 1) ∷ (20, 1) ∷ (22, 1) ∷ (24, 1) ∷ []

-- values as often as they stand
unfoldable pub repeated : List (ℕ × ℕ) → List ℕ
repeated [] = []
repeated (step ∷ steps) = replicate step.1 step.0 ++ repeated steps

-- whether a number is the nearest to the sixth root of 2^e: the sixth power of half a unit less is below it, that of
-- half a unit more above
unfoldable pub is_nearest_root : ℕ → ℕ → Bool
is_nearest_root n e = nat_lt ((2 * n - 1) ^ 6) (2 ^ (e + 6)) && nat_lt (2 ^ (e + 6)) ((2 * n + 1) ^ 6)

-- the factors of a square of 8x8, row by row, in up-right diagonal order
unfoldable pub in_diagonals : List (List ℕ) → List ℕ
in_diagonals rows = map (λ p. slice_index_or (slice_index_or rows p.1 []) p.0 0) (scan_order Diagonal 8)

-- the factors of intra prediction, row by row
unfoldable pub intra_square : List (List ℕ)
intra_square =
    (16 ∷ 16 ∷ 16 ∷ 16 ∷ 17 ∷ 18 ∷ 21 ∷ 24 ∷ []) ∷ (16 ∷ 16 ∷ 16 ∷ 16 ∷ 17 ∷ 19 ∷ 22 ∷ 25 ∷ [])
    ∷ (16 ∷ 16 ∷ 17 ∷ 18 ∷ 20 ∷ 22 ∷ 25 ∷ 29 ∷ []) ∷ (16 ∷ 16 ∷ 18 ∷ 21 ∷ 24 ∷ 27 ∷ 31 ∷ 36 ∷ [])
    ∷ (17 ∷ 17 ∷ 20 ∷ 24 ∷ 30 ∷ 35 ∷ 41 ∷ 47 ∷ []) ∷ (18 ∷ 19 ∷ 22 ∷ 27 ∷ 35 ∷ 44 ∷ 54 ∷ 65 ∷ [])
    ∷ (21 ∷ 22 ∷ 25 ∷ 31 ∷ 41 ∷ 54 ∷ 70 ∷ 88 ∷ []) ∷ (24 ∷ 25 ∷ 29 ∷ 36 ∷ 47 ∷ 65 ∷ 88 ∷ 115 ∷ []) ∷ []

-- those of inter prediction
unfoldable pub inter_square : List (List ℕ)
inter_square =
    (16 ∷ 16 ∷ 16 ∷ 16 ∷ 17 ∷ 18 ∷ 20 ∷ 24 ∷ []) ∷ (16 ∷ 16 ∷ 16 ∷ 17 ∷ 18 ∷ 20 ∷ 24 ∷ 25 ∷ [])
    ∷ (16 ∷ 16 ∷ 17 ∷ 18 ∷ 20 ∷ 24 ∷ 25 ∷ 28 ∷ []) ∷ (16 ∷ 17 ∷ 18 ∷ 20 ∷ 24 ∷ 25 ∷ 28 ∷ 33 ∷ [])
    ∷ (17 ∷ 18 ∷ 20 ∷ 24 ∷ 25 ∷ 28 ∷ 33 ∷ 41 ∷ []) ∷ (18 ∷ 20 ∷ 24 ∷ 25 ∷ 28 ∷ 33 ∷ 41 ∷ 54 ∷ [])
    ∷ (20 ∷ 24 ∷ 25 ∷ 28 ∷ 33 ∷ 41 ∷ 54 ∷ 71 ∷ []) ∷ (24 ∷ 25 ∷ 28 ∷ 33 ∷ 41 ∷ 54 ∷ 71 ∷ 91 ∷ []) ∷ []

-- a number with those below it, each pair followed by its exchange
unfoldable pub pairs_with : ℕ → List ℕ → List (ℕ × ℕ)
pairs_with j [] = []
pairs_with j (i ∷ rest) = (i, j) ∷ (j, i) ∷ pairs_with j rest

-- all pairs of numbers of a list, with those below each
unfoldable pub pairs_of : List ℕ → List (ℕ × ℕ)
pairs_of [] = []
pairs_of (j ∷ rest) = pairs_with j (range_with_len 0 j) ++ pairs_of rest

-- all pairs of two numbers below n
unfoldable pub pairs : ℕ → List (ℕ × ℕ)
pairs n = pairs_of (range_with_len 0 n)

-- QpC of qPi from 30 to 43
unfoldable pub printed_chroma_parameters : List ℕ
printed_chroma_parameters =
    29 ∷ 30 ∷ 31 ∷ 32 ∷ 33 ∷ 33 ∷ 34 ∷ 34 ∷ 35 ∷ 35 ∷ 36 ∷ 36 ∷ 37 ∷ 37 ∷ []
