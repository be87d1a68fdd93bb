-- Cells that are changed, and the samples that they hold.
use Rattle.std.proofs.Common.{◌≡◌, ℕ, ◌+◌, ◌-◌, ◌<◌, ◌≤◌, cond, Bool, true, false, ℤ, List, Option, Some, get_or}
use Rattle.std.proofs.Common.{arith}
use Rattle.std.proofs.Math.Path.{fun_ext}
use Rattle.std.proofs.lemmas.Bool.Decides.{nat_tests}
use Rattle.ctu_build.specs.declared.place.Place.{Place}
use Rattle.ctu_build.specs.Held.{Cells, added, block_of, cell, held, in_cell, inside_of}
use Rattle.spec_reconstruction.specs.Known.{Known, changed, constructed, laid, with_residual}
use Rattle.spec_transforms.specs.Transforms.{block_in}
use Rattle.ctu_build.proofs.Cells.{in_added, in_laid}

-- one sample after a square was changed
changed_at : (old new : Cells) (place : Place) (n : ℕ) (change : ℕ → ℕ → Option ℕ → Option ℕ) → place.c < 3
    → place.x + n ≤ 64 → place.y + n ≤ 64
    → (c i j : ℕ) → (c < 3 → i < 129 → j < 65
    → in_cell new (cell c i j)
    ≡ cond (inside_of place n c i j) (change (i - (place.x + 1)) (j - (place.y + 1)) (in_cell old (cell c i j)))
    (in_cell old (cell c i j)))
    → held new c i j ≡ changed place.c place.x place.y n change (held old) c i j
unfolding held changed
changed_at old new place n change hc hx hy c i j told = grind (arith, nat_tests)

-- a square is changed where its cells are
pub held_changed : (old new : Cells) (place : Place) (n : ℕ) (change : ℕ → ℕ → Option ℕ → Option ℕ) → place.c < 3
    → place.x + n ≤ 64 → place.y + n ≤ 64
    → ((c i j : ℕ) → c < 3 → i < 129 → j < 65
    → in_cell new (cell c i j)
    ≡ cond (inside_of place n c i j) (change (i - (place.x + 1)) (j - (place.y + 1)) (in_cell old (cell c i j)))
    (in_cell old (cell c i j)))
    → held new ≡ changed place.c place.x place.y n change (held old)
held_changed old new place n change hc hx hy told =
    fun_ext (λ c. fun_ext (λ i. fun_ext (λ j. changed_at old new place n change hc hx hy c i j (told c i j))))

same_at : (c x y n : ℕ) (f g : ℕ → ℕ → Option ℕ → Option ℕ) (known : Known)
    → ((i j : ℕ) (before : Option ℕ) → i < n → j < n → f i j before ≡ g i j before)
    → (d i j : ℕ) → changed c x y n f known d i j ≡ changed c x y n g known d i j
unfolding changed
same_at c x y n f g known same d i j =
    let e = same (i - (x + 1)) (j - (y + 1)) (known d i j) in grind (arith, nat_tests)

-- a square depends on what is done to its own samples alone
pub changed_same : (c x y n : ℕ) (f g : ℕ → ℕ → Option ℕ → Option ℕ) (known : Known)
    → ((i j : ℕ) (before : Option ℕ) → i < n → j < n → f i j before ≡ g i j before)
    → changed c x y n f known ≡ changed c x y n g known
changed_same c x y n f g known same = fun_ext (λ d. fun_ext (λ i. fun_ext (λ j. same_at c x y n f g known same d i j)))

-- a square that is laid, and one that residuals are added to
pub held_laid_square : (old new : Cells) (values values' : List ℕ) (known known' : List Bool) (place : Place) (n : ℕ)
    (block : List ℕ)
    → old.values ≡ values → old.known ≡ known → new.values ≡ values' → new.known ≡ known' → place.c < 3
    → place.x + n ≤ 64 → place.y + n ≤ 64
    → ((c i j : ℕ) → c < 3 → i < 129 → j < 65
    → get_or known' (cell c i j) false ≡ cond (inside_of place n c i j) true (get_or known (cell c i j) false))
    → ((c i j : ℕ) → c < 3 → i < 129 → j < 65
    → get_or values' (cell c i j) 0
    ≡ cond (inside_of place n c i j) (block_of n block (i - (place.x + 1)) (j - (place.y + 1)))
    (get_or values (cell c i j) 0))
    → held new ≡ laid place.c place.x place.y n (block_of n block) (held old)
held_laid_square old new values values' known known' place n block ov ok nv nk hc hx hy marks lays =
    held_changed old new place n (λ i j before. Some (block_of n block i j)) hc hx hy
    (λ c i j hd hi hj. rw (ov, ok, nv, nk) (in_laid (inside_of place n c i j) (get_or known (cell c i j) false)
    (get_or known' (cell c i j) false) (get_or values (cell c i j) 0) (get_or values' (cell c i j) 0)
    (block_of n block (i - (place.x + 1)) (j - (place.y + 1))) (marks c i j hd hi hj) (lays c i j hd hi hj)))

pub held_added_square : (old new : Cells) (values values' : List ℕ) (known : List Bool) (place : Place) (n depth : ℕ)
    (residuals : List ℤ)
    → old.values ≡ values → old.known ≡ known → new.values ≡ values' → new.known ≡ known → place.c < 3
    → place.x + n ≤ 64 → place.y + n ≤ 64
    → ((c i j : ℕ) → c < 3 → i < 129 → j < 65
    → get_or values' (cell c i j) 0
    ≡ cond (inside_of place n c i j)
    (added depth (get_or known (cell c i j) false) (block_in n residuals (i - (place.x + 1)) (j - (place.y + 1)))
    (get_or values (cell c i j) 0))
    (get_or values (cell c i j) 0))
    → held new ≡ constructed depth place.c place.x place.y n (block_in n residuals) (held old)
held_added_square old new values values' known place n depth residuals ov ok nv nk hc hx hy adds =
    held_changed old new place n (λ i j before. with_residual depth (block_in n residuals i j) before) hc hx hy
    (λ c i j hd hi hj. rw (ov, ok, nv, nk) (in_added (inside_of place n c i j) (get_or known (cell c i j) false)
    (get_or values (cell c i j) 0) (get_or values' (cell c i j) 0) depth
    (block_in n residuals (i - (place.x + 1)) (j - (place.y + 1))) (adds c i j hd hi hj)))
