-- Samples that are kept.
use Rattle.std.proofs.Common.{◌≡◌, ◌≢◌, ℕ, Bool, true, false, ◌+◌, ◌-◌, ◌*◌, ◌/◌, ◌^◌, ◌<◌, List, length, slice_set}
use Rattle.std.proofs.Common.{slice_index_or, cond, nat_lt, ◌&&◌, refl, ap, sym, ◌∙◌, arith}
use Rattle.std.proofs.lemmas.List.{get_or-set_same, get_or-set_other}
use Rattle.std.specs.Prelude.{◌==◌}
use Rattle.std.proofs.lemmas.Bool.Decides.{nat_tests}
use Rattle.sao_filter.specs.declared.row.OffsetRow.{OffsetRow}
use Rattle.sao_filter.specs.Row.{at, kept_at, top}
use Rattle.sao_filter.proofs.Laid.{line_below}

abbrev Told : ℕ → ℕ → ℕ → List ℕ → List ℕ → (ℕ → ℕ → Bool) → (ℕ → ℕ → ℕ) → Type 0
Told width line x now start kept f =
    (i j : ℕ) → i < width
    → at now (width * j + i) ≡ cond ((j == line && nat_lt i x) && kept i j) (f i j) (at start (width * j + i))

here_is : (x line v w o : ℕ) (b : Bool) → o ≡ cond ((line == line && nat_lt x x) && b) v w
    → cond b v o ≡ cond ((line == line && nat_lt x (x + 1)) && b) v w
here_is x line v w o b is = grind (arith, nat_tests)

there_is : (i j x line : ℕ) → false ≡ (j == line && i == x)
    → (j == line && nat_lt i x) ≡ (j == line && nat_lt i (x + 1))
there_is i j x line apart = grind (arith, nat_tests)

elsewhere : (width line x i j first : ℕ) → first ≡ width * line → x < width → i < width → false ≡ (j == line && i == x)
    → width * j + i ≢ first + x
elsewhere width line x i j first begins inside h apart =
    let up = line_below width j line in
    let down = line_below width line j in
    grind (arith, nat_tests)

keep_by : (width line x v first : ℕ) (before start : List ℕ) (kept : ℕ → ℕ → Bool) (f : ℕ → ℕ → ℕ) →
    first ≡ width * line → x < width → first + x < length before →
    v ≡ cond (kept x line) (f x line) (at before (first + x)) →
    Told width line x before start kept f → (i j : ℕ) → i < width → (b : Bool) → b ≡ (j == line && i == x) →
    at (slice_set before (first + x) v) (width * j + i)
    ≡ cond ((j == line && nat_lt i (x + 1)) && kept i j) (f i j) (at start (width * j + i))
keep_by width line x v first before start kept f begins inside room value told i j h true same =
    let same_j : j ≡ line = grind (arith, nat_tests) in
    let same_i : i ≡ x = grind (arith, nat_tests) in
    let e : width * line + x ≡ first + x = omega (arith, begins) in
    let t = told x line inside in
    rw (same_j, same_i) (ap (λ (k : ℕ). at (slice_set before (first + x) v) k) e
    ∙ get_or-set_same before (first + x) v 0 room ∙ value
    ∙ ap (λ (k : ℕ). cond (kept x line) (f x line) (at before k)) (sym e)
    ∙ here_is x line (f x line) (at start (width * line + x)) (at before (width * line + x)) (kept x line) t)
keep_by width line x v first before start kept f begins inside room value told i j h false apart =
    let ne = elsewhere width line x i j first begins inside h apart in
    get_or-set_other before (first + x) (width * j + i) v 0 ne ∙ told i j h
    ∙ ap (λ (b : Bool). cond (b && kept i j) (f i j) (at start (width * j + i))) (there_is i j x line apart)

-- one more sample of a line
pub keep_more : (width line x v first : ℕ) (before start : List ℕ) (kept : ℕ → ℕ → Bool) (f : ℕ → ℕ → ℕ) →
    first ≡ width * line → x < width → first + x < length before →
    v ≡ cond (kept x line) (f x line) (at before (first + x)) →
    ((i j : ℕ) → i < width
    → at before (width * j + i) ≡ cond ((j == line && nat_lt i x) && kept i j) (f i j) (at start (width * j + i))) →
    (i j : ℕ) → i < width
    → at (slice_set before (first + x) v) (width * j + i)
    ≡ cond ((j == line && nat_lt i (x + 1)) && kept i j) (f i j) (at start (width * j + i))
keep_more width line x v first before start kept f begins inside room value told i j h =
    keep_by width line x v first before start kept f begins inside room value told i j h (j == line && i == x) refl

-- one more line
pub keep_line_more : (width line : ℕ) (now before start : List ℕ) (kept : ℕ → ℕ → Bool) (f : ℕ → ℕ → ℕ) →
    ((i j : ℕ) → i < width
    → at now (width * j + i) ≡ cond (j == line && kept i j) (f i j) (at before (width * j + i))) →
    ((i j : ℕ) → i < width
    → at before (width * j + i) ≡ cond (nat_lt j line && kept i j) (f i j) (at start (width * j + i))) →
    (i j : ℕ) → i < width
    → at now (width * j + i) ≡ cond (nat_lt j (line + 1) && kept i j) (f i j) (at start (width * j + i))
keep_line_more width line now before start kept f wrote told i j h =
    let w = wrote i j h in
    let t = told i j h in
    grind (arith, nat_tests)

-- whether a sample is kept, by the line of the row
pub kept_is : (row : OffsetRow) (x line places : ℕ) → places ≡ row.places * (line / 2 ^ row.place_log2) →
    slice_index_or row.kept.now (places + x / 2 ^ row.place_log2) false ≡ kept_at row x (top row + line)
kept_is row x line places is =
    let e : line ≡ top row + line - top row = omega arith in
    ap (λ (p : ℕ). slice_index_or row.kept.now (p + x / 2 ^ row.place_log2) false)
    (is ∙ ap (λ (k : ℕ). row.places * (k / 2 ^ row.place_log2)) e)
