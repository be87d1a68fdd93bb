-- The words of a row: those of its coding tree units, and of the row behind all loop filters.
use Rattle.std.proofs.Common.{◌≡◌, refl, ℕ, ◌+◌, ◌-◌, ◌<◌, ◌≤◌, Bool, cond, inl, inr}
use Rattle.std.proofs.Common.{arith, ap}
use Rattle.std.proofs.Common.{◌∙◌, subst}
use Rattle.std.proofs.lemmas.Bool.{cases_lt, lt-ltb, le-ltb, ne_eqb}
use Rattle.hv_base.specs.declared.line.Phase.{Phase}
use Rattle.hv_base.specs.declared.line.Phase.TheVariants.{B, V, H, S}
use Rattle.sample_words.specs.declared.sizes.FlightSizes.{FlightSizes}
use Rattle.sample_words.specs.declared.unit_word.UnitWord.{UnitWord}
use Rattle.sample_words.specs.Sizes.{IsFlight, columns, ctb_size, height_of, width_of, common_words, carry_words}
use Rattle.sample_words.specs.Sizes.{tree_words, tree_start, built_words, filtered_words, row_words, phase_start}
use Rattle.sample_words.specs.Words.{line_units, phase_words, start_in_phase, unit_word, column_at}
use Rattle.sample_words.specs.Words.{tree_word_at, row_word_at}
use Rattle.sample_words.proofs.Columns.{begins, more_words, column_of, found_column, in_column, below_columns}
use Rattle.sample_words.proofs.Extents.{some_columns, whole_columns, some_common}

-- the words of a unit that isn't the last of its row
whole_unit : (s : FlightSizes) (height column : ℕ) → column + 1 < columns s
    → tree_words s height column ≡ common_words s (ctb_size s) height + more_words column
whole_unit s height column more =
    let e = ap (λ w. common_words s w height) (whole_columns s column more) in
    let n : carry_words s column ≡ 0 =
    ap (λ (b : Bool). cond b 24 0) (ne_eqb (column + 1) (columns s) (λ h. absurd (omega arith))) in
    omega arith

inside_whole : (s : FlightSizes) (height column index : ℕ) → index < tree_words s height column
    → column + 1 < columns s → index < common_words s (ctb_size s) height + more_words column
inside_whole s height column index lt more = let e = whole_unit s height column more in omega arith

-- the last one's
inside_last : (s : FlightSizes) (height column index : ℕ) → index < tree_words s height column
    → column + 1 ≡ columns s → index < tree_words s height (columns s - 1)
inside_last s height column index lt e =
    let same : column ≡ columns s - 1 = omega arith in
    subst (λ k. index < tree_words s height k) same lt

tree_found : (s : FlightSizes) (picture row column index : ℕ) → column < columns s
    → index < tree_words s (height_of s row) column
    → tree_word_at s picture row (tree_start s (height_of s row) column + index) ≡ unit_word B picture row column index
unfolding tree_word_at column_at
tree_found s picture row column index below lt =
    let height : ℕ = height_of s row in
    let size : ℕ = common_words s (ctb_size s) height in
    let e = found_column size (columns s) column index (some_common s (ctb_size s) height) below
    (inside_whole s height column index lt) in
    rw e (let i : begins size column + index - begins size column ≡ index = omega arith in
    ap (unit_word B picture row column) i)

tree_below : (s : FlightSizes) (height column index : ℕ) → column < columns s → index < tree_words s height column
    → tree_start s height column + index < built_words s height
unfolding built_words
tree_below s height column index below lt =
    below_columns (common_words s (ctb_size s) height) (columns s) column (tree_words s height (columns s - 1)) index
    below (inside_whole s height column index lt) (inside_last s height column index lt)

-- a word of a coding tree unit
row_found_tree : (s : FlightSizes) (picture row column index : ℕ) → column < columns s
    → index < tree_words s (height_of s row) column
    → row_word_at s picture row (0 + tree_start s (height_of s row) column + index)
    ≡ unit_word B picture row column index
unfolding row_word_at
row_found_tree s picture row column index below lt =
    let offset : ℕ = 0 + tree_start s (height_of s row) column + index in
    let e : offset ≡ tree_start s (height_of s row) column + index = omega arith in
    let b = tree_below s (height_of s row) column index below lt in
    let t = lt-ltb offset (built_words s (height_of s row)) (omega arith) in
    rw t (ap (tree_word_at s picture row) e ∙ tree_found s picture row column index below lt)

-- a word of the row behind all loop filters
row_found_filtered : (s : FlightSizes) (picture row index : ℕ)
    → row_word_at s picture row (built_words s (height_of s row) + 0 + index) ≡ unit_word S picture row 0 index
unfolding row_word_at
row_found_filtered s picture row index =
    let offset : ℕ = built_words s (height_of s row) + 0 + index in
    let t = le-ltb offset (built_words s (height_of s row)) (omega arith) in
    let e : offset - built_words s (height_of s row) ≡ index = omega arith in
    rw t (ap (unit_word S picture row 0) e)

filtered_below : (s : FlightSizes) (height index : ℕ) → index < filtered_words s height
    → built_words s height + 0 + index < row_words s height
unfolding row_words
filtered_below s height index lt = omega (arith, lt)

-- where a word of a unit stands in its row
abbrev pub offset_in_row : FlightSizes → Phase → ℕ → ℕ → ℕ → ℕ
offset_in_row s phase height unit index = phase_start s height phase + start_in_phase s phase height unit + index

pub row_found : (s : FlightSizes) (phase : Phase) (picture row unit index : ℕ) → unit < line_units s phase
    → index < phase_words s phase (height_of s row) unit
    → row_word_at s picture row (offset_in_row s phase (height_of s row) unit index)
    ≡ unit_word phase picture row unit index
row_found s B picture row unit index below lt = row_found_tree s picture row unit index below lt
row_found s V picture row unit index below lt = absurd (omega (arith, lt))
row_found s H picture row unit index below lt = absurd (omega (arith, lt))
row_found s S picture row unit index below lt =
    let u : 0 ≡ unit = omega (arith, below) in
    row_found_filtered s picture row index ∙ ap (λ k. unit_word S picture row k index) u

built_below : (s : FlightSizes) (height offset : ℕ) → offset < built_words s height → offset < row_words s height
unfolding row_words
built_below s height offset lt = omega arith

pub row_below : (s : FlightSizes) (phase : Phase) (height unit index : ℕ) → unit < line_units s phase
    → index < phase_words s phase height unit → offset_in_row s phase height unit index < row_words s height
row_below s B height unit index below lt =
    let b = tree_below s height unit index below lt in
    built_below s height (0 + tree_start s height unit + index) (omega arith)
row_below s V height unit index below lt = absurd (omega (arith, lt))
row_below s H height unit index below lt = absurd (omega (arith, lt))
row_below s S height unit index below lt = filtered_below s height index lt

-- a word of a row, found by its offset
pub record IsInRow (s : FlightSizes) (picture row offset : ℕ) (u : UnitWord) : Type 0 where
  pub picture_is : u.line.picture ≡ picture
  pub row_is : u.line.row ≡ row
  pub unit : u.unit < line_units s u.line.phase
  pub index : u.index < phase_words s u.line.phase (height_of s row) u.unit
  pub offset_is : offset_in_row s u.line.phase (height_of s row) u.unit u.index ≡ offset

tree_owned : (s : FlightSizes) (picture row offset : ℕ) → IsFlight s → offset < built_words s (height_of s row)
    → IsInRow s picture row offset (tree_word_at s picture row offset)
unfolding tree_word_at column_at built_words
tree_owned s picture row offset flight lt =
    let height : ℕ = height_of s row in
    let size : ℕ = common_words s (ctb_size s) height in
    let last : ℕ = tree_words s height (columns s - 1) in
    let is = in_column size (columns s) last offset (some_common s (ctb_size s) height) (some_columns s flight) lt in
    let column : ℕ = column_of size (columns s) offset in
    let i : offset - begins size column < tree_words s height column = elim (cases_lt (column + 1) (columns s)) [
      | inl more ↦ let e = whole_unit s height column more in let l = is.inside more in omega arith
      | inr none ↦
          let below = is.column in
          let e : column + 1 ≡ columns s = omega arith in
          let l = is.end e in
          let same : columns s - 1 ≡ column = omega arith in
          subst (λ k. offset - begins size column < tree_words s height k) same l
    ] in
    let b = is.start in
    record { picture_is = refl; row_is = refl; unit = is.column; index = i; offset_is = omega arith }

filtered_owned : (s : FlightSizes) (picture row offset : ℕ) → built_words s (height_of s row) ≤ offset
    → offset < row_words s (height_of s row)
    → IsInRow s picture row offset (unit_word S picture row 0 (offset - built_words s (height_of s row)))
unfolding row_words
filtered_owned s picture row offset le lt = record {
  picture_is = refl;
  row_is = refl;
  unit = omega arith;
  index = omega (arith, le, lt);
  offset_is = omega (arith, le);
}

pub row_owned : (s : FlightSizes) (picture row offset : ℕ) → IsFlight s → offset < row_words s (height_of s row)
    → IsInRow s picture row offset (row_word_at s picture row offset)
unfolding row_word_at
row_owned s picture row offset flight lt = elim (cases_lt offset (built_words s (height_of s row))) [
  | inl less ↦
      let t = lt-ltb offset (built_words s (height_of s row)) less in
      rw t (tree_owned s picture row offset flight less)
  | inr more ↦
      let t = le-ltb offset (built_words s (height_of s row)) more in
      rw t (filtered_owned s picture row offset more lt)
]

pub some_row_words : (s : FlightSizes) (height : ℕ) → 0 < row_words s height
unfolding row_words built_words
some_row_words s height =
    let c = some_common s (width_of s (columns s - 1)) height in omega arith
