-- The units of a picture.
use Rattle.std.proofs.Common.{◌≡◌, ℕ, zero, suc, ◌+◌, ◌*◌, ◌<◌, ◌==◌, ◌&&◌, cond, nat_lt, List, length}
use Rattle.std.proofs.Common.{get_or, inl, inr, ap, refl, ◌∙◌, arith}
use Rattle.std.proofs.lemmas.Bool.{cases_lt}
use Rattle.std.proofs.lemmas.Bool.Decides.{nat_tests}
use Rattle.std.proofs.lemmas.List.{get_or_default}
use Rattle.ctu_records.specs.declared.offset.Sao.{Sao}
use Rattle.header_types.specs.SequenceParameterSets.{height_in_ctbs}
use Rattle.place_grid.specs.Cells.{cell}
use Rattle.plan_types.specs.declared.picture_plan.PicturePlan.{PicturePlan}
use Rattle.plan_types.specs.declared.segment_plan.SegmentPlan.{SegmentPlan}
use Rattle.spec_picture_filters.specs.Units.{is_across, offset_of, slice_address, unit_read, units_laid}
use Rattle.spec_picture_trees.specs.SpecSliceData.{PictureShape, column_of, row_of}
use Rattle.spec_picture_trees.specs.Shapes.{picture_shape}
use Rattle.spec_sample_adaptive_offset.specs.declared.unit.OffsetUnit.{OffsetUnit}
use Rattle.picture_filters.specs.Given.{offsets_laid}
use Rattle.picture_filters.specs.Units.{FieldUnits, HasUnits, first_unit, units_of}

-- those of a row
pub row_units : (units : FieldUnits) (row : List OffsetUnit) (c r : ℕ) → c < 3 → 3 * r + c < units.down
    → ((other : OffsetUnit) (x j : ℕ) → x < units.across → j < 1 → 3 * r + c + j < units.down
    → get_or row (units.across * j + x) other ≡ cell first_unit units x (3 * r + c + j))
    → (column : ℕ) (other : OffsetUnit) → column < units.across → get_or row column other ≡ units_of units c column r
unfolding units_of
row_units units row c r hc room told column other lt =
    let t = told other column 0 lt (omega arith) (omega (arith, room)) in
    let first : column ≡ units.across * 0 + column = grind arith in
    let last : 3 * r + c + 0 ≡ 3 * r + c = grind arith in
    let e : get_or row column other ≡ cell first_unit units column (3 * r + c) =
    ap (λ (n : ℕ). get_or row n other) first ∙ (t ∙ ap (cell first_unit units column) last) in
    grind (arith, nat_tests)

-- as many as there are columns
pub row_count : (units : FieldUnits) (row : List OffsetUnit) (columns rows r : ℕ)
    → HasUnits units columns rows → r < rows
    → ((n : ℕ) → units.down ≡ 3 * n → length row ≡ cond (nat_lt r n) units.across 0) → length row ≡ columns
row_count units row columns rows r sides hr count =
    let t = count rows sides.rows in
    let e = sides.columns in
    grind (arith, nat_tests)

-- the components of a unit, laid one after the other
laid_so : (picture : PictureShape) (address rows column row : ℕ) (offsets : List OffsetUnit)
    (old first second new : ℕ → ℕ → ℕ → OffsetUnit) (c i j : ℕ)
    → column ≡ column_of picture address → row ≡ row_of picture address
    → first c i j
    ≡ cond ((c == 0 && nat_lt row rows) && (i == column && j == row)) (get_or offsets 0 first_unit) (old c i j)
    → second c i j
    ≡ cond ((c == 1 && nat_lt row rows) && (i == column && j == row)) (get_or offsets 1 first_unit) (first c i j)
    → new c i j
    ≡ cond ((c == 2 && nat_lt row rows) && (i == column && j == row)) (get_or offsets 2 first_unit) (second c i j)
    → new c i j ≡ offsets_laid picture address rows offsets old c i j
unfolding offsets_laid
laid_so picture address rows column row offsets old first second new zero i j x y a b d = grind (arith, nat_tests)
laid_so picture address rows column row offsets old first second new (suc zero) i j x y a b d = grind (arith, nat_tests)
laid_so picture address rows column row offsets old first second new (suc (suc zero)) i j x y a b d =
    grind (arith, nat_tests)
laid_so picture address rows column row offsets old first second new (suc (suc (suc c))) i j x y a b d =
    grind (arith, nat_tests)

abbrev put_over : (c rows column row : ℕ) → OffsetUnit → (ℕ → ℕ → ℕ → OffsetUnit) → ℕ → ℕ → ℕ → OffsetUnit
put_over c rows column row unit old d i j =
    cond ((d == c && nat_lt row rows) && (i == column && j == row)) unit (old d i j)

pub units_are_laid : (picture : PictureShape) (address rows column row : ℕ) (offsets : List OffsetUnit)
    (outside : OffsetUnit) (old first second new : ℕ → ℕ → ℕ → OffsetUnit) (c i j : ℕ)
    → length offsets ≡ 3 → column ≡ column_of picture address → row ≡ row_of picture address
    → first c i j ≡ put_over 0 rows column row (get_or offsets 0 outside) old c i j
    → second c i j ≡ put_over 1 rows column row (get_or offsets 1 outside) first c i j
    → new c i j ≡ put_over 2 rows column row (get_or offsets 2 outside) second c i j
    → new c i j ≡ offsets_laid picture address rows offsets old c i j
units_are_laid picture address rows column row offsets outside old first second new c i j three x y a b d =
    let luma = get_or_default offsets 0 outside first_unit (omega (arith, three)) in
    let cb = get_or_default offsets 1 outside first_unit (omega (arith, three)) in
    let cr = get_or_default offsets 2 outside first_unit (omega (arith, three)) in
    laid_so picture address rows column row offsets old first second new c i j x y
    (a ∙ ap (λ (u : OffsetUnit). put_over 0 rows column row u old c i j) luma)
    (b ∙ ap (λ (u : OffsetUnit). put_over 1 rows column row u first c i j) cb)
    (d ∙ ap (λ (u : OffsetUnit). put_over 2 rows column row u second c i j) cr)

-- and these are what was read of it
pub offsets_are_read : (p : PicturePlan) (s : SegmentPlan) (address : ℕ) (sao : Sao) (offsets : List OffsetUnit)
    (old : ℕ → ℕ → ℕ → OffsetUnit) (c i j : ℕ)
    → ((k : ℕ) → k < 3 → get_or offsets k first_unit ≡ unit_read p s sao k)
    → offsets_laid (picture_shape p.sps p.pps) address (height_in_ctbs p.sps) offsets old c i j
    ≡ units_laid p s address sao old c i j
unfolding offsets_laid units_laid
offsets_are_read p s address sao offsets old c i j read = elim (cases_lt c 3) [
  | inl lt ↦ let t = read c lt in grind (arith, nat_tests)
  | inr le ↦ grind (arith, nat_tests)
]

-- a component as it was read, by the slice that its unit knows
pub component_is : (p : PicturePlan) (s : SegmentPlan) (slice : ℕ) (sao told : Sao) (k : ℕ) (unit : OffsetUnit)
    → slice ≡ slice_address p s → told ≡ sao
    → unit ≡ record { offset = offset_of told k; slice = slice; across = is_across s }
    → unit ≡ unit_read p s sao k
component_is p s slice sao told k unit of same e = rw (e, same, of) refl
