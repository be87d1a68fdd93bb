-- Rows of flags and of units, by what is known of three rows of coding tree blocks.
use Rattle.std.proofs.Common.{◌≡◌, ℕ, ◌+◌, ◌-◌, ◌*◌, ◌/◌, ◌<◌, ◌≤◌, Bool, true, false, nat_le, List, get_or, length}
use Rattle.std.proofs.Common.{inl, inr, refl, sym, ap, subst, ◌∙◌, arith}
use Rattle.std.specs.Prelude.{min}
use Rattle.std.proofs.lemmas.Bool.{cases_lt}
use Rattle.std.proofs.lemmas.Bool.Decides.{nat_tests}
use Rattle.std.proofs.lemmas.List.{get_or_past}
use Rattle.std.proofs.Math.Nat.{mul-le-mul_left}
use Rattle.place_grid.specs.Cells.{Cells, HasCells, cell}
use Rattle.spec_deblocking.specs.declared.place.Place.{Place}
use Rattle.spec_sample_adaptive_offset.specs.declared.unit.OffsetUnit.{OffsetUnit}
use Rattle.spec_loop_filters.specs.declared.format.FilterFormat.{FilterFormat}
use Rattle.loop_filters.specs.Formats.{IsFormat, columns_of}
use Rattle.loop_filters.proofs.Copied.{line_below}
use Rattle.row_filters.specs.Around.{Around, IsAround, no_place, no_unit, place_in, unit_in}

-- a component of a row of units
pub row_units : (around : Around) (row : List OffsetUnit) (c r slot : ℕ) (other : OffsetUnit)
    → HasCells around.units (columns_of around.format) 9 → c < 3 → slot ≡ min (r - around.above) 2
    → ((x j : ℕ) → x < around.units.across → j < 1 → 3 * slot + c + j < around.units.down
    → get_or row (around.units.across * j + x) other ≡ cell no_unit around.units x (3 * slot + c + j))
    → (u : ℕ) → u < columns_of around.format → get_or row u other ≡ unit_in around c u r
unfolding unit_in
row_units around row c r slot other sides third is told u less =
    let columns = sides.columns in
    let inside : u < around.units.across = omega (arith, columns, less) in
    let rows = sides.rows in
    let few : slot ≤ 2 = omega (arith, is) in
    let first : u ≡ around.units.across * 0 + u = grind arith in
    let last : 3 * slot + c + 0 ≡ 3 * slot + c = omega arith in
    ap (λ n. get_or row n other) first
    ∙ told u 0 inside (omega arith) (omega (arith, rows, few, third))
    ∙ ap (cell no_unit around.units u) last
    ∙ ap (λ n. cell no_unit around.units u (3 * n + c)) is

-- nothing is known above the three rows
pub none_above : (around : Around) (row : ℕ) → row < around.above
    → (i j : ℕ) → i < around.format.width / 4 → j < around.format.ctb_size / 4
    → false ≡ (place_in around i (around.format.ctb_size / 4 * row + j)).kept
unfolding place_in
none_above around row above i j left few =
    let le = line_below (around.format.ctb_size / 4) row around.above above in
    let t : nat_le (around.format.ctb_size / 4 * around.above) (around.format.ctb_size / 4 * row + j) ≡ false =
    grind (arith, nat_tests) in
    rw t refl

past_last : (flags : Cells Bool) (x y : ℕ) → flags.down ≤ y → cell false flags x y ≡ false
unfolding cell
past_last flags x y le = grind (arith, nat_tests)

-- flags of lines from one on, as far as there are
flags_from : (flags : Cells Bool) (field : Cells Place) (kept : List Bool) (first side : ℕ)
    → ((x y : ℕ) → cell false flags x y ≡ (cell no_place field x y).kept)
    → length kept ≡ flags.across * min side (flags.down - first)
    → ((x j : ℕ) → x < flags.across → j < side → first + j < flags.down
    → get_or kept (flags.across * j + x) false ≡ cell false flags x (first + j))
    → (x j : ℕ) → x < flags.across → j < side
    → get_or kept (flags.across * j + x) false ≡ (cell no_place field x (first + j)).kept
flags_from flags field kept first side same count told x j left few = elim (cases_lt (first + j) flags.down) [
  | inl lt ↦ told x j left few lt ∙ same x (first + j)
  | inr le ↦
      let less : min side (flags.down - first) ≤ j = omega (arith, le) in
      let past : flags.across * min side (flags.down - first) ≤ flags.across * j =
      mul-le-mul_left flags.across less in
      get_or_past kept (flags.across * j + x) false (omega (arith, count, past))
      ∙ sym (past_last flags x (first + j) le) ∙ same x (first + j)
]

-- the flags of a row are those of its places
pub row_kept : (around : Around) (flags : Cells Bool) (kept : List Bool) (row : ℕ) → around.above ≤ row
    → HasCells flags (around.format.width / 4) (3 * (around.format.ctb_size / 4))
    → ((x y : ℕ) → cell false flags x y ≡ (cell no_place around.places x y).kept)
    → length kept
    ≡ flags.across
    * min (around.format.ctb_size / 4) (flags.down - around.format.ctb_size / 4 * (row - around.above))
    → ((x j : ℕ) → x < flags.across → j < around.format.ctb_size / 4
    → around.format.ctb_size / 4 * (row - around.above) + j < flags.down
    → get_or kept (flags.across * j + x) false
    ≡ cell false flags x (around.format.ctb_size / 4 * (row - around.above) + j))
    → (i j : ℕ) → i < around.format.width / 4 → j < around.format.ctb_size / 4
    → get_or kept (around.format.width / 4 * j + i) false
    ≡ (place_in around i (around.format.ctb_size / 4 * row + j)).kept
unfolding place_in
row_kept around flags kept row low sides same count told i j left few =
    let m : ℕ = around.format.ctb_size / 4 in
    let columns = sides.columns in
    let split : m * (around.above + (row - around.above)) ≡ m * around.above + m * (row - around.above) =
    grind arith in
    let whole : around.above + (row - around.above) ≡ row = omega (arith, low) in
    let all : m * row ≡ m * around.above + m * (row - around.above) = ap (λ n. m * n) (sym whole) ∙ split in
    let t : nat_le (m * around.above) (m * row + j) ≡ true = grind (arith, nat_tests) in
    let line : m * (row - around.above) + j ≡ m * row + j - m * around.above = omega (arith, all) in
    let wide : around.format.width / 4 * j + i ≡ flags.across * j + i = ap (λ n. n * j + i) (sym columns) in
    rw t
    (ap (λ n. get_or kept n false) wide
    ∙ flags_from flags around.places kept (m * (row - around.above)) m same count told i j
    (omega (arith, columns, left))
    few
    ∙ ap (λ n. (cell no_place around.places i n).kept) line)

-- three rows of a format are those of another one of the same columns and units
pub other_format : (format other : FilterFormat) (above : ℕ) (field : Cells Place) (flags : Cells Bool)
    (units : Cells OffsetUnit) → IsAround format above field flags units → IsFormat other
    → other.width ≡ format.width → other.ctb_size ≡ format.ctb_size → IsAround other above field flags units
other_format format other above field flags units is there width size =
    let across = sym width in
    let side = sym size in
    record {
      is_format = there;
      few = is.few;
      places =
          subst (λ (n : ℕ). HasCells field (n / 4) (3 * (other.ctb_size / 4))) across
          (subst (λ (n : ℕ). HasCells field (format.width / 4) (3 * (n / 4))) side is.places);
      sides =
          subst (λ (n : ℕ). HasCells flags (n / 4) (3 * (other.ctb_size / 4))) across
          (subst (λ (n : ℕ). HasCells flags (format.width / 4) (3 * (n / 4))) side is.sides);
      kept = is.kept;
      units =
          subst (λ (n : ℕ). HasCells units ((n + other.ctb_size - 1) / other.ctb_size) 9) across
          (subst (λ (n : ℕ). HasCells units ((format.width + n - 1) / n) 9) side is.units);
    }
