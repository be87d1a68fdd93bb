-- The lines and the units of a row.
use Rattle.std.proofs.Common.{◌≡◌, ℕ, true, false, ◌+◌, ◌-◌, ◌*◌, ◌/◌, ◌<◌, ◌≤◌, List, cond, nat_le, nat_lt, ◌&&◌, ap}
use Rattle.std.proofs.Common.{◌∙◌, arith}
use Rattle.std.specs.Prelude.{min}
use Rattle.std.proofs.lemmas.Bool.Decides.{nat_tests}
use Rattle.std.proofs.Math.Nat.{mul-le-mul_left}
use Rattle.spec_sample_adaptive_offset.specs.declared.unit.OffsetUnit.{OffsetUnit}
use Rattle.spec_sample_adaptive_offset.specs.Plane.{unit_at}
use Rattle.sao_filter.specs.declared.row.OffsetRow.{OffsetRow}
use Rattle.sao_filter.specs.Row.{at, plane_of, samples_of, top, unit_in, units_of}
use Rattle.sao_filter.specs.Laying.{LaysLine}
use Rattle.sao_filter.proofs.Laid.{line_of_run}
use Rattle.sao_filter.proofs.Beside.{block_is}

-- a line that is one of so many has room among them
pub room : (width a m to total : ℕ) → a < m → width * m ≤ total → to ≤ width → width * a + to ≤ total
room width a m to total lt enough inside =
    let le : width * (a + 1) ≤ width * m = mul-le-mul_left width (omega arith) in
    grind arith

index_is : (width top line skip from i start : ℕ) → start ≡ width * (line + skip) + from → skip ≡ min top 1 → from ≤ i →
    start + (i - from) ≡ width * (top + line - (top - 1)) + i
index_is width top line skip from i start is above low =
    let e : top + line - (top - 1) ≡ line + skip = omega arith in
    rw (e, is) (omega arith)

-- a sample of a run is one of the deblocked plane
pub sample_is : (row : OffsetRow) (samples : List ℕ) (line skip from i start : ℕ) →
    start ≡ row.width * (line + skip) + from → skip ≡ min (top row) 1 → from ≤ i →
    at samples (start + (i - from)) ≡ samples_of row samples i (top row + line)
sample_is row samples line skip from i start is above low =
    ap (λ (k : ℕ). at samples k) (index_is row.width (top row) line skip from i start is above low)

-- what is made of each sample of a run is laid over the line
pub line_laid : (row : OffsetRow) (samples : List ℕ) (line skip from to start first count : ℕ) (new old : List ℕ)
    (g : ℕ → ℕ) →
    start ≡ row.width * (line + skip) + from → first ≡ row.width * line + from → count + from ≡ to → to ≤ row.width →
    skip ≡ min (top row) 1 →
    ((q : ℕ)
    → at new q ≡ cond (nat_le first q && nat_lt q (first + count)) (g (at samples (start + (q - first)))) (at old q)) →
    LaysLine row.width line from to (λ i. g (samples_of row samples i (top row + line))) old new
line_laid row samples line skip from to start first count new old g is begins many inside above wrote =
    line_of_run row.width line from to first count new old (λ k. g (at samples (start + k)))
    (λ i. g (samples_of row samples i (top row + line))) begins many inside wrote
    (λ i low high. ap g (sample_is row samples line skip from i start is above low))

-- the unit of a sample of the row
pub unit_is : (row : OffsetRow) (i j k : ℕ) → row.size * k ≤ i → i < row.size * k + row.size → j < row.size
    → unit_at (plane_of row) i (top row + j) ≡ unit_in row.here.now k
unit_is row i j k low high line =
    let column = block_is row.size k i low high in
    let down = block_is row.size row.row (top row + j) (omega arith) (omega arith) in
    let here : units_of row row.row ≡ row.here.now = grind (arith, nat_tests) in
    ap (λ (q : ℕ). unit_in (units_of row ((top row + j) / row.size)) q) column
    ∙ ap (λ (v : ℕ). unit_in (units_of row v) k) down
    ∙ ap (λ (us : List OffsetUnit). unit_in us k) here

-- one more block of a row, over samples of the deblocked plane f
pub row_more : (width s k n : ℕ) (now before start : List ℕ) (G F f : ℕ → ℕ → ℕ) →
    ((i j : ℕ) → i < width → j < n
    → ((nat_le (s * k) i && nat_lt i (s * k + s)) ≡ true → at before (width * j + i) ≡ f i j)
    → at now (width * j + i) ≡ cond (nat_le (s * k) i && nat_lt i (s * k + s)) (G i j) (at before (width * j + i))) →
    ((i j : ℕ) → s * k ≤ i → i < s * k + s → j < n → G i j ≡ F i j) →
    ((i j : ℕ) → i < width → j < n → at start (width * j + i) ≡ f i j
    → at before (width * j + i) ≡ cond (nat_lt i (s * k)) (F i j) (at start (width * j + i))) →
    (i j : ℕ) → i < width → j < n → at start (width * j + i) ≡ f i j
    → at now (width * j + i) ≡ cond (nat_lt i (s * (k + 1))) (F i j) (at start (width * j + i))
row_more width s k n now before start G F f wrote value told i j h line stood =
    let e : s * (k + 1) ≡ s * k + s = grind arith in
    let old = told i j h line stood in
    let new : s * k ≤ i → i < s * k + s → G i j ≡ F i j = λ low high. value i j low high line in
    let yet : (nat_le (s * k) i && nat_lt i (s * k + s)) ≡ true → at before (width * j + i) ≡ f i j = λ t.
    let none : nat_lt i (s * k) ≡ false = grind (arith, nat_tests) in
    (rw none at old) ∙ stood in
    let w = wrote i j h line yet in
    grind (arith, nat_tests)

-- a sample of a line is one of the deblocked plane
pub line_is : (row : OffsetRow) (samples : List ℕ) (line skip x : ℕ) → skip ≡ min (top row) 1
    → at samples (row.width * (line + skip) + x) ≡ samples_of row samples x (top row + line)
line_is row samples line skip x is =
    let e : line + skip ≡ top row + line - (top row - 1) = omega arith in
    ap (λ (k : ℕ). at samples (row.width * k + x)) e
