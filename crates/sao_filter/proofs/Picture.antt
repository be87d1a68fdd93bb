-- A row of a picture reads what the picture has.
use Rattle.std.proofs.Common.{◌≡◌, ℕ, Bool, true, false, zero, suc, ◌+◌, ◌-◌, ◌*◌, ◌/◌, ◌<◌, ◌≤◌, nat_lt, nat_le}
use Rattle.std.proofs.Common.{List}
use Rattle.std.proofs.Common.{refl, ap, sym, ◌∙◌, arith}
use Rattle.std.proofs.Math.Nat.{mul-div-le}
use Rattle.std.proofs.lemmas.Bool.Decides.{nat_tests}
use Rattle.spec_sample_adaptive_offset.specs.declared.unit.OffsetUnit.{OffsetUnit}
use Rattle.spec_sample_adaptive_offset.specs.Plane.{AgreeBeside, OffsetPlane, unit_at}
use Rattle.sao_filter.specs.declared.row.OffsetRow.{OffsetRow}
use Rattle.sao_filter.specs.Row.{IsRow, StandsFor, lines_of, plane_of, samples_of, top, unit_in, units_of}
use Rattle.sao_filter.proofs.Beside.{block_is}

units_here : (row : OffsetRow) (v : ℕ) → v ≡ row.row → units_of row v ≡ row.here.now
units_here row v is = grind (arith, nat_tests)

units_above : (row : OffsetRow) (v : ℕ) → v < row.row → units_of row v ≡ row.above.now
units_above row v is = grind (arith, nat_tests)

units_below : (row : OffsetRow) (v : ℕ) → row.row < v → units_of row v ≡ row.below.now
units_below row v is = grind (arith, nat_tests)

-- the row of units that a line near the row lies in
data Lies (s r j : ℕ) : Type 0 where
  Above : 0 < r → j / s ≡ r - 1 → Lies s r j
  Here : j / s ≡ r → Lies s r j
  Below : s * r + s ≤ j → j / s ≡ r + 1 → Lies s r j

line_above : (s r j : ℕ) → 1 ≤ s → s * r ≤ j + 1 → j < s * r → Lies s r j
line_above s zero j some low lt = let none : s * 0 ≡ 0 = grind arith in absurd (omega arith)
line_above s (suc r) j some low lt =
    let e : s * suc r ≡ s * r + s = grind arith in
    Above (omega arith) (block_is s r j (omega arith) (omega arith) ∙ omega arith)

line_below : (s r j : ℕ) → 1 ≤ s → s * r + s ≤ j → j ≤ s * r + s → Lies s r j
line_below s r j some low lt =
    let e : s * (r + 1) ≡ s * r + s = grind arith in
    Below low (block_is s (r + 1) j (omega arith) (omega arith))

lies_from : (s r j : ℕ) (above below : Bool) → 1 ≤ s → s * r ≤ j + 1 → j ≤ s * r + s → above ≡ nat_lt j (s * r)
    → below ≡ nat_le (s * r + s) j → Lies s r j
lies_from s r j true below some low high a b = line_above s r j some low (grind (arith, nat_tests))
lies_from s r j false true some low high a b = line_below s r j some (grind (arith, nat_tests)) high
lies_from s r j false false some low high a b =
    Here (block_is s r j (grind (arith, nat_tests)) (grind (arith, nat_tests)))

unit_same : (row : OffsetRow) (lines : List ℕ) (p : OffsetPlane) (f : ℕ → ℕ → ℕ) (i j u v : ℕ) →
    StandsFor row lines p f → row.size * u < row.width → j < row.height → v ≡ j / row.size →
    Lies row.size row.row j → p.unit u v ≡ unit_in (units_of row v) u
unit_same row lines p f i j u v is column inside e (Above some at) =
    let w : v ≡ row.row - 1 = e ∙ at in
    let n : units_of row v ≡ row.above.now = units_above row v (omega arith) in
    ap (λ (k : ℕ). p.unit u k) w ∙ is.above some u column ∙ ap (λ (us : List OffsetUnit). unit_in us u) (sym n)
unit_same row lines p f i j u v is column inside e (Here at) =
    let w : v ≡ row.row = e ∙ at in
    let n : units_of row v ≡ row.here.now = units_here row v w in
    ap (λ (k : ℕ). p.unit u k) w ∙ is.here u column ∙ ap (λ (us : List OffsetUnit). unit_in us u) (sym n)
unit_same row lines p f i j u v is column inside e (Below behind at) =
    let w : v ≡ row.row + 1 = e ∙ at in
    let n : units_of row v ≡ row.below.now = units_below row v (omega arith) in
    ap (λ (k : ℕ). p.unit u k) w ∙ is.below (omega arith) u column ∙ ap (λ (us : List OffsetUnit). unit_in us u) (sym n)

at_same : (row : OffsetRow) (lines : List ℕ) (p : OffsetPlane) (f : ℕ → ℕ → ℕ) (i j : ℕ) → StandsFor row lines p f →
    IsRow row → i < row.width → j < row.height →
    row.size * row.row ≤ j + 1 → j ≤ row.size * row.row + row.size → unit_at p i j ≡ unit_at (plane_of row) i j
at_same row lines p f i j is a column inside low high =
    let begins = mul-div-le i row.size in
    let lies = lies_from row.size row.row j _ _ a.size.0 low high refl refl in
    ap (λ (s : ℕ). p.unit (i / s) (j / s)) is.size
    ∙ unit_same row lines p f i j (i / row.size) (j / row.size) is (omega arith) inside refl lies

-- so a sample of the row is the picture's
pub agrees : (row : OffsetRow) (lines : List ℕ) (p : OffsetPlane) (f : ℕ → ℕ → ℕ) (x j : ℕ) → StandsFor row lines p f →
    IsRow row → x < row.width → j < lines_of row →
    AgreeBeside p (plane_of row) f (samples_of row lines) x (top row + j)
agrees row lines p f x j is a column line =
    let t : row.size * row.row + j < row.height = omega arith in
    let size : j < row.size = omega arith in
    let w = is.width in
    let h = is.height in
    record {
      width = is.width;
      height = is.height;
      depth = is.depth;
      inside = (omega arith, omega arith);
      kept = is.kept x j column line;
      units = λ i k ins inh x1 x2 y1 y2. at_same row lines p f i k is a (omega arith) (omega arith) (omega arith)
          (omega arith);
      samples = λ i k ins inh x1 x2 y1 y2. is.samples i k (omega arith) (omega arith) (omega arith) (omega arith);
    }
