-- The places of a unit, laid row after row.
use Rattle.std.proofs.Common.{◌≡◌, ℕ, ◌+◌, ◌-◌, ◌*◌, ◌<◌, ◌≤◌, ◌==◌, ◌&&◌, cond, nat_le, nat_lt, List, take, drop, inl}
use Rattle.std.proofs.Common.{inr, length, refl, ◌∙◌, arith}
use Rattle.std.proofs.lemmas.Bool.{cases_lt}
use Rattle.std.proofs.lemmas.Bool.Decides.{nat_tests}
use Rattle.std.proofs.lemmas.List.{get_or-drop, get_or-take, length-drop, length-take}
use Rattle.picture_filters.specs.declared.filter_place.FilterPlace.{FilterPlace}
use Rattle.slice_types.specs.declared.slice.SliceDeblocking.{SliceDeblocking}
use Rattle.boundary_strengths.specs.SpecBoundaryStrengths.{UnitPlace}
use Rattle.picture_filters.specs.declared.filter_place.SliceOffsets.{SliceOffsets}
use Rattle.picture_filters.specs.Filtering.{filter_place, filter_places_laid, read_place}
use Rattle.picture_filters.specs.Places.{first_read, held_row, known_place}
use Rattle.spec_picture_filters.specs.Units.{held_offset, place_of}
use Rattle.picture_layout.proofs.Blocks.{of_block}
use Rattle.picture_layout.specs.Blocks.{IsBlock}
use Rattle.picture_layout.specs.declared.block.PlaceBlock.{PlaceBlock}
use Rattle.picture_layout.specs.declared.coding_tree_unit.CodingTreeUnit.{CodingTreeUnit}

pub laid_rows : (unit : CodingTreeUnit) (block : PlaceBlock) (slice : SliceDeblocking) (read : ℕ → ℕ → UnitPlace)
    (old new : ℕ → ℕ → FilterPlace) (i j : ℕ)
    → IsBlock unit block
    → new i j
    ≡ cond
    ((nat_le block.y j && nat_lt j (block.y + block.rows)) && (nat_le block.x i && nat_lt i (block.x + block.columns)))
    (filter_place slice (read (i - block.x) (j - block.y))) (old i j)
    → new i j ≡ filter_places_laid unit.layout unit.address slice read old i j
unfolding filter_places_laid
laid_rows unit block slice read old new i j is e =
    let places = of_block unit block i j is in
    let x = is.x in
    let y = is.y in
    grind (arith, nat_tests)

-- as many places as were asked for
pub part_length : (read : List UnitPlace) (first count : ℕ) → first + count ≤ length read
    → length (take (first + count - first) (drop first read)) ≡ count
part_length read first count room =
    let d = length-drop first read in
    let t = length-take (first + count - first) (drop first read) in
    omega (arith, d, t, room)

abbrev offsets_of : SliceDeblocking → SliceOffsets
offsets_of slice = record {
  beta = held_offset slice.slice_beta_offset_div2;
  tc = held_offset slice.slice_tc_offset_div2;
}

-- a place of a row that was read
row_place : (slice : SliceDeblocking) (o : SliceOffsets) (read : List UnitPlace) (first count row k : ℕ)
    → o ≡ offsets_of slice → first ≡ 16 * row → k < count
    → known_place (held_row (take count (drop first read)) o k) ≡ filter_place slice (read_place read k row)
unfolding place_of
row_place slice o read first count row k is at lt =
    let t = get_or-take count (drop first read) k first_read lt ∙ get_or-drop first read k first_read in
    rw (is, t, at) refl

-- the places of a row, laid
pub laid_row : (slice : SliceDeblocking) (o : SliceOffsets) (read : List UnitPlace)
    (first count columns x y row i j all : ℕ) (old new : FilterPlace)
    → o ≡ offsets_of slice → first ≡ 16 * row → count ≡ columns → all ≡ columns
    → new
    ≡ cond (j == y && (nat_le x i && nat_lt i (x + all)))
    (known_place (held_row (take count (drop first read)) o (i - x))) old
    → new
    ≡ cond (j == y && (nat_le x i && nat_lt i (x + columns))) (filter_place slice (read_place read (i - x) row)) old
laid_row slice o read first count columns x y row i j all old new is at few same e = elim (cases_lt i (x + columns)) [
  | inl lt ↦ elim (cases_lt i x) [
    | inl less ↦ grind (arith, nat_tests)
    | inr le ↦
        let t = row_place slice o read first count row (i - x) is at (omega (arith, few, lt, le)) in
        grind (arith, nat_tests)
  ]
  | inr past ↦ grind (arith, nat_tests)
]
