-- Cells, and the motion that they hold.
use Rattle.std.proofs.Common.{◌≡◌, ℕ, ◌+◌, ◌<◌, ◌≤◌, ◌&&◌, cond, nat_le, nat_lt, List, Option, Some, None, inl, inr}
use Rattle.std.proofs.Common.{get_or, replicate, arith}
use Rattle.std.proofs.Math.ListN.{get_or-eq_default}
use Rattle.std.proofs.Math.Path.{fun_ext}
use Rattle.std.proofs.lemmas.Bool.{cases_lt}
use Rattle.std.proofs.lemmas.Bool.Decides.{nat_tests}
use Rattle.std.proofs.lemmas.List.{get_or-replicate, length-replicate}
use Rattle.spec_motion.specs.CtuRecords.{Rectangle}
use Rattle.spec_motion.specs.declared.vectors.Motion.{Motion}
use Rattle.spec_motion.specs.Derivation.{motion_over}
use Rattle.ctu_motion.specs.Held.{Cells, cell, block_cell, held, held_beneath}

same_at : {A : Type 0} (n k : ℕ) (d : A) → get_or (replicate n d) k d ≡ d
same_at n k d = elim (cases_lt k n) [
  | inl lt ↦ get_or-replicate n k d d lt
  | inr le ↦ get_or-eq_default (replicate n d) d (omega (arith, le, length-replicate n d))
]

none_at : {A : Type 0} (n k : ℕ) (xs : List (Option A)) → xs ≡ replicate n None → get_or xs k None ≡ None
none_at n k xs e = rw e (same_at n k None)

-- cells without motion
pub nothing_held : (cells : Cells) → cells.places ≡ replicate 578 None → (column row : ℕ) → held cells column row ≡ None
unfolding held
nothing_held cells e column row = let s = none_at 578 (cell column row) cells.places e in grind (arith, nat_tests, s)

pub nothing_beneath : (cells : Cells) → cells.beneath ≡ replicate 20 None
    → (column row : ℕ) → held_beneath cells column row ≡ None
unfolding held_beneath
nothing_beneath cells e column row =
    let s = none_at 20 (block_cell column row) cells.beneath e in grind (arith, nat_tests, s)

-- a place after a block was laid
over_at : (old new : Cells) (block : Rectangle) (motion : Motion) (x y width height : ℕ) → x ≡ block.x → y ≡ block.y
    → width ≡ block.width → height ≡ block.height → block.x + block.width ≤ 16 → block.y + block.height ≤ 16
    → (i j : ℕ) → (i < 34 → j < 17
    → get_or new.places (cell i j) None
    ≡ cond ((nat_le (x + 1) i && nat_lt i (x + 1 + width)) && (nat_le (y + 1) j && nat_lt j (y + 1 + height)))
    (Some motion) (get_or old.places (cell i j) None))
    → held new i j ≡ motion_over block motion (held old) i j
unfolding held motion_over
over_at old new block motion x y width height ex ey ew eh hx hy i j told = grind (arith, nat_tests)

pub held_over : (old new : Cells) (places places' : List (Option Motion)) (block : Rectangle) (motion : Motion)
    (x y width height : ℕ)
    → old.places ≡ places → new.places ≡ places' → x ≡ block.x → y ≡ block.y → width ≡ block.width
    → height ≡ block.height → block.x + block.width ≤ 16 → block.y + block.height ≤ 16
    → ((i j : ℕ) (d : Option Motion) → i < 34 → j < 17
    → get_or places' (cell i j) d
    ≡ cond ((nat_le (x + 1) i && nat_lt i (x + 1 + width)) && (nat_le (y + 1) j && nat_lt j (y + 1 + height)))
    (Some motion) (get_or places (cell i j) d))
    → held new ≡ motion_over block motion (held old)
held_over old new places places' block motion x y width height eo en ex ey ew eh hx hy told =
    fun_ext (λ i. fun_ext (λ j. over_at old new block motion x y width height ex ey ew eh hx hy i j
    (λ hi hj. rw (eo, en) (told i j None hi hj))))

-- one motion that was laid over all places of a unit of the greatest size
pub whole_laid : (old new : List (Option Motion)) (value : Option Motion) (block : Rectangle) (x y width height : ℕ)
    → x ≡ block.x → y ≡ block.y → width ≡ block.width → height ≡ block.height → block.x + block.width ≤ 16
    → block.y + block.height ≤ 16
    → ((i j : ℕ) (d : Option Motion) → i < 34 → j < 17
    → get_or new (cell i j) d
    ≡ cond ((nat_le (x + 1) i && nat_lt i (x + 1 + width)) && (nat_le (y + 1) j && nat_lt j (y + 1 + height))) value
    (get_or old (cell i j) d))
    → block.width ≡ 16 → block.height ≡ 16
    → (i j : ℕ) → i < 16 → j < 16 → get_or new (cell (i + 1) (j + 1)) None ≡ get_or new (cell 1 1) None
whole_laid old new value block x y width height ex ey ew eh hx hy told wide high i j li lj =
    let here = told (i + 1) (j + 1) None (omega (arith, li)) (omega (arith, lj)) in
    let first = told 1 1 None (omega arith) (omega arith) in
    grind (arith, nat_tests)
