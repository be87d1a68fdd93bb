-- The motion of a unit, laid row after row.
use Rattle.std.proofs.Common.{◌≡◌, ℕ, ◌+◌, ◌-◌, ◌<◌, ◌≤◌, ◌&&◌, cond, nat_le, nat_lt, arith}
use Rattle.std.proofs.Math.Path.{fun_ext}
use Rattle.std.proofs.lemmas.Bool.Decides.{nat_tests}
use Rattle.spec_motion.specs.declared.slice_motion.SliceMotion.{SliceMotion}
use Rattle.spec_motion.specs.Vectors.{Known}
use Rattle.spec_picture_motion.specs.Field.{Motions, pointing_motion, unit_laid}
use Rattle.picture_layout.proofs.Blocks.{of_block}
use Rattle.picture_layout.specs.Blocks.{IsBlock}
use Rattle.picture_layout.specs.declared.coding_tree_unit.CodingTreeUnit.{CodingTreeUnit}
use Rattle.picture_layout.specs.declared.block.PlaceBlock.{PlaceBlock}

laid_at : (unit : CodingTreeUnit) (block : PlaceBlock) (slice : SliceMotion) (known : Known) (old new : Motions)
    (i j : ℕ)
    → IsBlock unit block
    → new i j
    ≡ cond
    ((nat_le block.y j && nat_lt j (block.y + block.rows)) && (nat_le block.x i && nat_lt i (block.x + block.columns)))
    (pointing_motion slice (known (i - block.x + 1) (j - block.y + 1))) (old i j)
    → new i j ≡ unit_laid unit.layout unit.address slice known old i j
unfolding unit_laid
laid_at unit block slice known old new i j is e =
    let places = of_block unit block i j is in
    let x = is.x in
    let y = is.y in
    grind (arith, nat_tests)

pub laid_rows : (unit : CodingTreeUnit) (block : PlaceBlock) (slice : SliceMotion) (known : Known) (old new : Motions)
    → IsBlock unit block
    → ((i j : ℕ)
    → new i j
    ≡ cond
    ((nat_le block.y j && nat_lt j (block.y + block.rows)) && (nat_le block.x i && nat_lt i (block.x + block.columns)))
    (pointing_motion slice (known (i - block.x + 1) (j - block.y + 1))) (old i j))
    → new ≡ unit_laid unit.layout unit.address slice known old
laid_rows unit block slice known old new is e =
    fun_ext (λ i. fun_ext (λ j. laid_at unit block slice known old new i j is (e i j)))

-- rows that have the motion of one, behind those that are laid
pub rows_more : {A : Type 0} (x y columns row end : ℕ) (f : ℕ → ℕ → A) (new mid old : A) (i j : ℕ) → row < end
    → ((a b : ℕ) → a < columns → row ≤ b → b < end → f (a + 1) (b + 1) ≡ f (a + 1) (row + 1))
    → new
    ≡ cond ((nat_le (y + row) j && nat_lt j (y + end)) && (nat_le x i && nat_lt i (x + columns)))
    (f (i - x + 1) (row + 1)) mid
    → mid
    ≡ cond ((nat_le y j && nat_lt j (y + row)) && (nat_le x i && nat_lt i (x + columns)))
    (f (i - x + 1) (j - y + 1)) old
    → new
    ≡ cond ((nat_le y j && nat_lt j (y + end)) && (nat_le x i && nat_lt i (x + columns)))
    (f (i - x + 1) (j - y + 1)) old
rows_more x y columns row end f new mid old i j lt same put before =
    let e = same (i - x) (j - y) in grind (arith, nat_tests)
