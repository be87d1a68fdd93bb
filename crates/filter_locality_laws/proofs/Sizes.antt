-- The rows of a component, by those of luma.
use Rattle.std.proofs.Common.{◌≡◌, ℕ, ◌+◌, ◌-◌, ◌*◌, ◌/◌, ◌%◌, ◌<◌, ◌≤◌, ◌==◌, Bool, true, false, ap, ◌∙◌}
use Rattle.std.proofs.Common.{if◌then◌else◌, arith}
use Rattle.std.proofs.lemmas.Nat.{mod-mul-add}
use Rattle.spec_loop_filters.specs.SpecDeblocking.{Plane}
use Rattle.spec_loop_filters.specs.SpecDeblocking.{Luma, Chroma}
use Rattle.spec_loop_filters.specs.SpecDeblocking.{side}
use Rattle.spec_loop_filters.specs.declared.format.FilterFormat.{FilterFormat}
use Rattle.spec_loop_filters.specs.Filters.{luma_samples, plane_of}
use Rattle.filter_locality_laws.specs.Rows.{IsFilterFormat, IsPlaceOfRow}

-- a multiple of a multiple of eight
eights : (k row : ℕ) → k % 8 ≡ 0 → k * row % 8 ≡ 0
eights k row none =
    let e : k ≡ k / 8 * 8 = omega (arith, none) in
    let all : k * row ≡ k / 8 * 8 * row = ap (λ n. n * row) e in
    let turned : k / 8 * 8 * row ≡ k / 8 * row * 8 + 0 = grind arith in
    ap (λ n. n % 8) (all ∙ turned) ∙ mod-mul-add (k / 8 * row) 8 0 (omega arith)

-- twice as many
doubled : (k h row : ℕ) → k ≡ 2 * h → k * row ≡ 2 * (h * row)
doubled k h row e = let twice : 2 * h * row ≡ 2 * (h * row) = grind arith in ap (λ n. n * row) e ∙ twice

-- a row of coding tree blocks of a plane, of which a sample stands for n luma samples across and down
pub record IsRow (format : FilterFormat) (plane : Plane) (n row : ℕ) : Type 0 where
  pub width : format.width / n % 4 ≡ 0
  pub height : format.height / n % 4 ≡ 0
  -- the other columns of a place
  pub across : (x i : ℕ) → x < format.width / n → i < side plane * (x / side plane) + side plane → i < format.width / n
  pub top : format.ctb_size / n * row % 8 ≡ 0
  pub lines : format.ctb_size / n % 8 ≡ 0
  pub some : 1 ≤ format.ctb_size / n
  -- the row of places of a line of it
  pub here : (y : ℕ) → format.ctb_size / n * row ≤ y → y < format.ctb_size / n * row + format.ctb_size / n
      → IsPlaceOfRow format row 0 (y / side plane)
  -- that of a line of it or of so many lines beside it, and the other lines of that place
  pub near : (beside y : ℕ) → beside % 4 ≡ 0 → format.ctb_size / n * row ≤ y + beside
      → y < format.ctb_size / n * row + format.ctb_size / n + beside
      → IsPlaceOfRow format row (beside / 2) (y / side plane)
  pub strip : (beside y j : ℕ) → beside % 4 ≡ 0 → format.ctb_size / n * row ≤ y + beside
      → y < format.ctb_size / n * row + format.ctb_size / n + beside
      → side plane * (y / side plane) ≤ j → j < side plane * (y / side plane) + side plane
      → (format.ctb_size / n * row ≤ j + beside) × (j < format.ctb_size / n * row + format.ctb_size / n + beside)
  -- the places on both sides of the horizontal edge that a line of it, or one of four beside it, stands at, and the
  -- lines beside that edge
  pub before : (y : ℕ) → format.ctb_size / n * row ≤ y + 4 → y < format.ctb_size / n * row + format.ctb_size / n + 4
      → 0 < (y + 4) / 8 → IsPlaceOfRow format row 1 ((8 * ((y + 4) / 8) - 1) / side plane)
  pub behind : (y : ℕ) → format.ctb_size / n * row ≤ y + 4 → y < format.ctb_size / n * row + format.ctb_size / n + 4
      → IsPlaceOfRow format row 1 (8 * ((y + 4) / 8) / side plane)

luma_row : (format : FilterFormat) (row : ℕ) → IsFilterFormat format → IsRow format Luma 1 row
luma_row format row whole =
    let k : ℕ = format.ctb_size in
    let one : k / 1 ≡ k = omega arith in
    let same : k / 1 * row ≡ k * row = ap (λ n. n * row) one in
    let blocks = whole.ctb_size in
    let lines : k / 1 % 8 ≡ 0 = omega (arith, one, blocks) in
    let top = eights (k / 1) row lines in
    record {
      width = omega (arith, whole.width);
      height = omega (arith, whole.height);
      across = λ x i less last. omega (arith, whole.width, less, last);
      top = top;
      lines = lines;
      some = omega (arith, one, whole.some);
      here = λ y low high. (omega (arith, one, same, low, top), omega (arith, one, same, high));
      near = λ beside y four low high.
          (omega (arith, one, same, four, low, top), omega (arith, one, same, four, high, top, lines));
      strip = λ beside y j four low high first last.
          (omega (arith, four, low, top, first), omega (arith, four, high, top, lines, last));
      before = λ y low high some.
          (omega (arith, one, same, low, top), omega (arith, one, same, high, top, lines, some));
      behind = λ y low high. (omega (arith, one, same, low, top), omega (arith, one, same, high, top, lines));
    }

chroma_row : (format : FilterFormat) (offset : _) (row : ℕ) → IsFilterFormat format → IsRow format (Chroma offset) 2 row
chroma_row format offset row whole =
    let k : ℕ = format.ctb_size in
    let blocks = whole.ctb_size in
    let half : k ≡ 2 * (k / 2) = omega (arith, blocks) in
    let same = doubled k (k / 2) row half in
    let lines : k / 2 % 8 ≡ 0 = omega (arith, blocks) in
    let top = eights (k / 2) row lines in
    record {
      width = omega (arith, whole.width);
      height = omega (arith, whole.height);
      across = λ x i less last. omega (arith, whole.width, less, last);
      top = top;
      lines = lines;
      some = omega (arith, half, whole.some);
      here = λ y low high. (omega (arith, half, same, low, top), omega (arith, half, same, high));
      near = λ beside y four low high.
          (omega (arith, half, same, four, low, top), omega (arith, half, same, four, high, top, lines));
      strip = λ beside y j four low high first last.
          (omega (arith, four, low, top, first), omega (arith, four, high, top, lines, last));
      before = λ y low high some.
          (omega (arith, half, same, low, top), omega (arith, half, same, high, top, lines, some));
      behind = λ y low high. (omega (arith, half, same, low, top), omega (arith, half, same, high, top, lines));
    }

pub row_is : (format : FilterFormat) (c row : ℕ) → IsFilterFormat format
    → IsRow format (plane_of format c) (luma_samples c) row
row_is format c row whole = by (c == 0) (c == 1)
  where
    by : (t u : Bool) → IsRow format (if t then Luma
        else (if u then Chroma format.pps_cb_qp_offset else Chroma format.pps_cr_qp_offset)) (if t then 1 else 2) row
    by true u = luma_row format row whole
    by false true = chroma_row format format.pps_cb_qp_offset row whole
    by false false = chroma_row format format.pps_cr_qp_offset row whole
