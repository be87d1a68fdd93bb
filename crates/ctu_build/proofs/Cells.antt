-- Cells, what is known in them, and how they are changed.
use Rattle.std.proofs.Common.{◌≡◌, ℕ, ◌+◌, ◌-◌, ◌*◌, ◌<◌, ◌≤◌, ◌==◌, ◌&&◌, cond, nat_le, nat_lt, Bool, true, false, ℤ}
use Rattle.std.proofs.Common.{List, ◌∷◌, [], Option, Some, None, inl, inr, get_or, replicate, take, drop, ap}
use Rattle.std.proofs.Common.{◌∙◌, refl, arith, if◌then◌else◌, unwrap_or}
use Rattle.std.proofs.Math.ListN.{get_or-eq_default}
use Rattle.std.proofs.lemmas.Bool.{cases_lt}
use Rattle.std.proofs.lemmas.Bool.Decides.{nat_tests}
use Rattle.std.proofs.lemmas.List.{get_or-drop, get_or-replicate, get_or-take, length-replicate}
use Rattle.ctu_build.specs.Held.{AreCells, Cells, added, cell, held, inside_of, lines_of}
use Rattle.ctu_build.specs.declared.extents.Extents.{Extents}
use Rattle.ctu_build.specs.declared.place.Place.{Place}
use Rattle.spec_reconstruction.specs.Known.{with_residual}

same_at : {A : Type 0} (n k : ℕ) (d : A) → get_or (replicate n d) k d ≡ d
same_at n k d = elim (cases_lt k n) [
  | inl lt ↦ get_or-replicate n k d d lt
  | inr le ↦ get_or-eq_default (replicate n d) d (omega (arith, le, length-replicate n d))
]

-- cells of which none was used
pub are_new : (n : ℕ) (values : List ℕ) (known : List Bool) (extents : Extents) → values ≡ replicate n 0
    → known ≡ replicate n false → ((c : ℕ) → lines_of extents c ≤ 65) → AreCells values known extents
are_new n values known extents v k few = record {
  few = few;
  luma = few 0;
  cb = few 1;
  cr = few 2;
  zeros = λ c i j hc hi hj none. rw v (same_at n (cell c i j) 0);
  unused = λ c i j hc hi hj le. rw k (same_at n (cell c i j) false);
}

-- in which nothing is known
pub nothing_held : (cells : Cells)
    → ((c i j : ℕ) → c < 3 → i < 129 → j < 65 → get_or cells.known (cell c i j) false ≡ false)
    → (c i j : ℕ) → held cells c i j ≡ None
unfolding held
nothing_held cells none c i j = let z = none c i j in grind (arith, nat_tests)

pub new_held : (n : ℕ) (cells : Cells) → cells.known ≡ replicate n false → (c i j : ℕ) → held cells c i j ≡ None
new_held n cells e = nothing_held cells (λ c i j hc hi hj. rw e (same_at n (cell c i j) false))

-- a sample behind the lines in use, where none was marked
before_line : (b : Bool) (j lines lines' : ℕ) (k k' : Bool) → k' ≡ cond b true k → (b ≡ true → j < lines') → lines' ≤ j
    → (lines ≤ j → k ≡ false) → lines ≤ lines' → k' ≡ false
before_line true j lines lines' k k' e lies le unused more = absurd (omega (arith, lies refl))
before_line false j lines lines' k k' e lies le unused more = e ∙ unused (omega arith)

-- cells that become known, of lines before one
pub are_laid : (values values' : List ℕ) (known known' : List Bool) (extents extents' : Extents)
    (inside : ℕ → ℕ → ℕ → Bool) (sample : ℕ → ℕ → ℕ → ℕ)
    → AreCells values known extents → ((c : ℕ) → lines_of extents' c ≤ 65)
    → ((c : ℕ) → lines_of extents c ≤ lines_of extents' c)
    → ((c i j : ℕ) → inside c i j ≡ true → j < lines_of extents' c)
    → ((c i j : ℕ) → c < 3 → i < 129 → j < 65
    → get_or known' (cell c i j) false ≡ cond (inside c i j) true (get_or known (cell c i j) false))
    → ((c i j : ℕ) → c < 3 → i < 129 → j < 65
    → get_or values' (cell c i j) 0 ≡ cond (inside c i j) (sample c i j) (get_or values (cell c i j) 0))
    → AreCells values' known' extents'
are_laid values values' known known' extents extents' inside sample are few more lies marks lays = record {
  few = few;
  luma = few 0;
  cb = few 1;
  cr = few 2;
  zeros = λ c i j hc hi hj none. let m = marks c i j hc hi hj in
      let l = lays c i j hc hi hj in let z = are.zeros c i j hc hi hj in grind (arith, nat_tests);
  unused = λ c i j hc hi hj le. before_line (inside c i j) j _ _ _ _ (marks c i j hc hi hj) (lies c i j) le
      (λ less. are.unused c i j hc hi hj less) (more c);
}

-- what residuals leave where no sample is known
none_added : (b k : Bool) (depth : ℕ) (r : ℤ) (v v' : ℕ) → v' ≡ cond b (added depth k r v) v → k ≡ false → v ≡ 0
    → v' ≡ 0
unfolding added
none_added false k depth r v v' e none zero = e ∙ zero
none_added true k depth r v v' e none zero = rw (e, none) zero

-- cells whose known samples are changed
pub are_added : (values values' : List ℕ) (known : List Bool) (extents : Extents) (depth : ℕ)
    (inside : ℕ → ℕ → ℕ → Bool) (residual : ℕ → ℕ → ℤ)
    → AreCells values known extents
    → ((c i j : ℕ) → c < 3 → i < 129 → j < 65
    → get_or values' (cell c i j) 0
    ≡ cond (inside c i j) (added depth (get_or known (cell c i j) false) (residual i j) (get_or values (cell c i j) 0))
    (get_or values (cell c i j) 0))
    → AreCells values' known extents
are_added values values' known extents depth inside residual are adds = record {
  few = are.few;
  luma = are.luma;
  cb = are.cb;
  cr = are.cr;
  zeros = λ c i j hc hi hj none. none_added (inside c i j) _ depth (residual i j) _ _ (adds c i j hc hi hj) none
      (are.zeros c i j hc hi hj none);
  unused = are.unused;
}

-- what is known in a cell that was laid, and in one that a residual was added to
pub in_laid : (b k k' : Bool) (v v' x : ℕ) → k' ≡ cond b true k → v' ≡ cond b x v
    → (if k' then Some v' else None) ≡ cond b (Some x) (if k then Some v else None)
in_laid false k k' v v' x e f = rw (e, f) refl
in_laid true k k' v v' x e f = rw (e, f) refl

pub in_added : (b k : Bool) (v v' depth : ℕ) (r : ℤ) → v' ≡ cond b (added depth k r v) v
    → (if k then Some v' else None)
    ≡ cond b (with_residual depth r (if k then Some v else None)) (if k then Some v else None)
unfolding added
in_added false k v v' depth r e = rw e refl
in_added true false v v' depth r e = refl
in_added true true v v' depth r e = rw e refl

-- cells that become known, by place
pub held_laid : (old new : Cells) (values values' : List ℕ) (known known' : List Bool) (c i j x : ℕ) (inside : Bool)
    → old.values ≡ values → old.known ≡ known → new.values ≡ values' → new.known ≡ known'
    → (inside ≡ true → (c < 3) × ((i < 129) × (j < 65)))
    → (c < 3 → i < 129 → j < 65 → get_or known' (cell c i j) false ≡ cond inside true (get_or known (cell c i j) false))
    → (c < 3 → i < 129 → j < 65 → get_or values' (cell c i j) 0 ≡ cond inside x (get_or values (cell c i j) 0))
    → held new c i j ≡ cond inside (Some x) (held old c i j)
unfolding held
held_laid old new values values' known known' c i j x inside ov ok nv nk lies marks lays =
    rw (ov, ok, nv, nk) (grind (arith, nat_tests))

-- a line of cells
pub line_held : (values : List ℕ) (known : List Bool) (extents : Extents) (c i j : ℕ) (cells : Cells)
    → AreCells values known extents
    → cells.values ≡ values → cells.known ≡ known → c < 3 → i < 129 → j < 65
    → get_or values (cell c i j) 0 ≡ unwrap_or (held cells c i j) 0
unfolding held
line_held values known extents c i j cells are v k hc hi hj =
    let z = are.zeros c i j hc hi hj in rw (v, k) (grind (arith, nat_tests))

-- a line of cells from a column on, by place
line_inside : (c column line n i j k : ℕ) → column + n ≤ 129 → c < 3 → line < 65 → i < 3 → j < 129 → k < 65
    → (nat_le (cell c column line) (cell i j k) && nat_lt (cell i j k) (cell c column line + n))
    ≡ ((i == c) && ((k == line) && (nat_le column j && nat_lt j (column + n))))
line_inside c column line n i j k fits hc hl hi hj hk = grind (arith, nat_tests)

cond_at : (b : Bool) (f : ℕ → ℕ) (m n z : ℕ) → (b ≡ true → m ≡ n) → cond b (f m) z ≡ cond b (f n) z
cond_at true f m n z e = ap f (e refl)
cond_at false f m n z e = refl

line_place : (c column line n i j k : ℕ)
    → ((i == c) && ((k == line) && (nat_le column j && nat_lt j (column + n)))) ≡ true
    → cell i j k - cell c column line ≡ j - column
line_place c column line n i j k is = grind (arith, nat_tests)

pub line_marked : (known known' : List Bool) (c column line n first : ℕ) → first ≡ cell c column line → column + n ≤ 129
    → c < 3 → line < 65
    → ((q : ℕ) → get_or known' q false ≡ cond (nat_le first q && nat_lt q (first + n)) true (get_or known q false))
    → (i j k : ℕ) → i < 3 → j < 129 → k < 65
    → get_or known' (cell i j k) false
    ≡ cond ((i == c) && ((k == line) && (nat_le column j && nat_lt j (column + n)))) true
    (get_or known (cell i j k) false)
line_marked known known' c column line n first at fits hc hl marks i j k hi hj hk =
    marks (cell i j k)
    ∙ ap (λ (f : ℕ). cond (nat_le f (cell i j k) && nat_lt (cell i j k) (f + n)) true (get_or known (cell i j k) false))
    at
    ∙ ap (λ (b : Bool). cond b true (get_or known (cell i j k) false))
    (line_inside c column line n i j k fits hc hl hi hj hk)

pub line_copied : (values values' : List ℕ) (f : ℕ → ℕ) (c column line n first : ℕ) → first ≡ cell c column line
    → column + n ≤ 129 → c < 3 → line < 65
    → ((q : ℕ)
    → get_or values' q 0 ≡ cond (nat_le first q && nat_lt q (first + n)) (f (q - first)) (get_or values q 0))
    → (i j k : ℕ) → i < 3 → j < 129 → k < 65
    → get_or values' (cell i j k) 0
    ≡ cond ((i == c) && ((k == line) && (nat_le column j && nat_lt j (column + n)))) (f (j - column))
    (get_or values (cell i j k) 0)
line_copied values values' f c column line n first at fits hc hl copies i j k hi hj hk =
    copies (cell i j k)
    ∙ ap (λ (m : ℕ). cond (nat_le m (cell i j k) && nat_lt (cell i j k) (m + n)) (f (cell i j k - m))
    (get_or values (cell i j k) 0))
    at
    ∙ ap (λ (b : Bool). cond b (f (cell i j k - cell c column line)) (get_or values (cell i j k) 0))
    (line_inside c column line n i j k fits hc hl hi hj hk)
    ∙ cond_at _ f _ _ _ (line_place c column line n i j k)

-- what is left in a cell, where the lines in use of three components are cleared
left_at : {A : Type 0} (none was first second third : A) (extents : Extents) (luma cb cr c i j : ℕ)
    → ((c : ℕ) → lines_of extents c ≤ 65) → c < 3 → i < 129 → j < 65
    → luma ≡ 129 * extents.luma → cb ≡ 129 * extents.cb → cr ≡ 129 * extents.cr
    → first ≡ cond (nat_le 0 (cell c i j) && nat_lt (cell c i j) (0 + luma)) none was
    → second ≡ cond (nat_le 8385 (cell c i j) && nat_lt (cell c i j) (8385 + cb)) none first
    → third ≡ cond (nat_le 16770 (cell c i j) && nat_lt (cell c i j) (16770 + cr)) none second
    → (lines_of extents c ≤ j → was ≡ none) → third ≡ none
left_at none was first second third extents luma cb cr c i j few hc hi hj el eb er x y z u =
    let f = few 0 in
    let g = few 1 in
    let h = few 2 in
    grind (arith, nat_tests)

pub none_left : (known first second third : List Bool) (values : List ℕ) (extents : Extents) (luma cb cr : ℕ)
    → AreCells values known extents
    → luma ≡ 129 * extents.luma → cb ≡ 129 * extents.cb → cr ≡ 129 * extents.cr
    → ((q : ℕ) → get_or first q false ≡ cond (nat_le 0 q && nat_lt q (0 + luma)) false (get_or known q false))
    → ((q : ℕ) → get_or second q false ≡ cond (nat_le 8385 q && nat_lt q (8385 + cb)) false (get_or first q false))
    → ((q : ℕ) → get_or third q false ≡ cond (nat_le 16770 q && nat_lt q (16770 + cr)) false (get_or second q false))
    → (c i j : ℕ) → c < 3 → i < 129 → j < 65 → get_or third (cell c i j) false ≡ false
none_left known first second third values extents luma cb cr are el eb er x y z c i j hc hi hj =
    left_at false _ _ _ _ extents luma cb cr c i j are.few hc hi hj el eb er (x (cell c i j)) (y (cell c i j))
    (z (cell c i j)) (are.unused c i j hc hi hj)

pub zeros_left : (values first second third : List ℕ) (known : List Bool) (extents : Extents) (luma cb cr : ℕ)
    → AreCells values known extents
    → luma ≡ 129 * extents.luma → cb ≡ 129 * extents.cb → cr ≡ 129 * extents.cr
    → ((q : ℕ) → get_or first q 0 ≡ cond (nat_le 0 q && nat_lt q (0 + luma)) 0 (get_or values q 0))
    → ((q : ℕ) → get_or second q 0 ≡ cond (nat_le 8385 q && nat_lt q (8385 + cb)) 0 (get_or first q 0))
    → ((q : ℕ) → get_or third q 0 ≡ cond (nat_le 16770 q && nat_lt q (16770 + cr)) 0 (get_or second q 0))
    → (c i j : ℕ) → c < 3 → i < 129 → j < 65 → get_or third (cell c i j) 0 ≡ 0
zeros_left values first second third known extents luma cb cr are el eb er x y z c i j hc hi hj =
    left_at 0 _ _ _ _ extents luma cb cr c i j are.few hc hi hj el eb er (x (cell c i j)) (y (cell c i j))
    (z (cell c i j)) (λ le. are.zeros c i j hc hi hj (are.unused c i j hc hi hj le))

pub are_cleared : (values : List ℕ) (known : List Bool) (extents : Extents)
    → ((c i j : ℕ) → c < 3 → i < 129 → j < 65 → get_or values (cell c i j) 0 ≡ 0)
    → ((c i j : ℕ) → c < 3 → i < 129 → j < 65 → get_or known (cell c i j) false ≡ false)
    → ((c : ℕ) → lines_of extents c ≤ 65) → AreCells values known extents
are_cleared values known extents zeros none few = record {
  few = few;
  luma = few 0;
  cb = few 1;
  cr = few 2;
  zeros = λ c i j hc hi hj n. zeros c i j hc hi hj;
  unused = λ c i j hc hi hj le. none c i j hc hi hj;
}

-- where the cells of a line are
pub line_bounds : (c column line n i j k : ℕ) → column + n ≤ 129 → c < 3 → line < 65
    → ((i == c) && ((k == line) && (nat_le column j && nat_lt j (column + n)))) ≡ true
    → (i < 3) × ((j < 129) × (k < 65))
line_bounds c column line n i j k fits hc hl is =
    (grind (arith, nat_tests), (grind (arith, nat_tests), grind (arith, nat_tests)))

pub line_lines : (c column line n : ℕ) (extents : Extents) → line + 1 ≤ lines_of extents c
    → (i j k : ℕ) → ((i == c) && ((k == line) && (nat_le column j && nat_lt j (column + n)))) ≡ true
    → k < lines_of extents i
line_lines c column line n extents more i j k is =
    let same : i ≡ c = grind (arith, nat_tests) in
    let at : k ≡ line = grind (arith, nat_tests) in
    rw (same, at) (omega arith)

pub place_lines : (place : Place) (n : ℕ) (extents : Extents) (d end : ℕ) → d ≡ place.c → end ≡ place.y + 1 + n
    → end ≤ lines_of extents d
    → (c i j : ℕ) → inside_of place n c i j ≡ true → j < lines_of extents c
place_lines place n extents d end at last more c i j is =
    let same : c ≡ d = grind (arith, nat_tests) in
    let lt : j < end = grind (arith, nat_tests) in
    rw same (omega arith)

-- a part of the cells that is a line
pub line_part : (values : List ℕ) (c line first n j : ℕ) → first ≡ cell c 0 line → j < n
    → get_or (take n (drop first values)) j 0 ≡ get_or values (cell c j line) 0
line_part values c line first n j at lt =
    get_or-take n (drop first values) j 0 lt ∙ get_or-drop first values j 0
    ∙ ap (λ (q : ℕ). get_or values q 0) (omega (arith, at))

-- a line of one sample
pub put_one : (c column line value i j k : ℕ) (old new : Option ℕ)
    → new
    ≡ (if (i == c) && ((k == line) && (nat_le column j && nat_lt j (column + 1)))
    then Some (get_or (value ∷ []) (j - column) 0)
    else old)
    → new ≡ (if (i == c) && ((j == column) && (k == line)) then Some value else old)
put_one c column line value i j k old new told = grind (arith, nat_tests)
