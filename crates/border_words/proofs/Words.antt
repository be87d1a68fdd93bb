-- The words of a coding tree unit by their contents.
use Rattle.std.proofs.Common.{◌≡◌, ℕ, ◌+◌, ◌-◌, ◌*◌, ◌/◌, ◌^◌, ◌<◌, ◌≤◌, arith, ap, sym, ◌∙◌, subst}
use Rattle.std.proofs.Math.Nat.{mul-le-mul_right}
use Rattle.hv_base.specs.declared.line.Line.{Line}
use Rattle.hv_base.specs.declared.line.Phase.{Phase}
use Rattle.hv_base.specs.declared.line.Phase.TheVariants.{B}
use Rattle.sample_words.specs.declared.unit_content.UnitContent.{UnitContent}
use Rattle.sample_words.specs.declared.unit_content.UnitContent.TheVariants.{Modes, Offsets, Vectors}
use Rattle.sample_words.specs.declared.sizes.FlightSizes.{FlightSizes}
use Rattle.sample_words.specs.Contents.{index_of, unit_width}
use Rattle.sample_words.specs.Sizes.{IsFlight, common_words, height_of, places, sample_words, width_of}
use Rattle.sample_words.proofs.Bounds.{few_sample_words, small_height, small_width}
use Rattle.sample_words.specs.Words.{phase_words}
use Rattle.spec_flights.specs.Pictures.{PlannedFlight}
use Rattle.spec_flights.specs.Words.{expected}
use Rattle.line_words.specs.Places.{UnitAt, word_at, words_at}
use Rattle.border_words.specs.declared.place_words.PlaceWords.{PlaceWords}
use Rattle.border_words.specs.Units.{ArePlaceWords, word_in}

-- a word is that of the content that has its index
pub word_is : (f : PlannedFlight) (u : UnitAt) (content : UnitContent) (index : ℕ) → u.line.phase ≡ B
    → index ≡ index_of u.sizes (width_of u.sizes u.unit) (height_of u.sizes u.line.row) u.unit content
    → expected f (word_at u index) ≡ word_in f u content
word_is f u content index phase is = λ t.
    expected f (record {
      line = record { phase = phase t; picture = u.line.picture; row = u.line.row };
      unit = u.unit;
      index = is t;
    })

-- how many samples a unit has
pub unit_wide : (u : UnitAt) (s : FlightSizes) (line : Line) (unit column w : ℕ) → u.sizes ≡ s → line ≡ u.line
    → unit ≡ u.unit → column ≡ unit → u.line.phase ≡ B → w ≡ unit_width s line.phase column
    → w ≡ width_of u.sizes u.unit
unit_wide u s line unit column w sizes line_is unit_is column_is phase is =
    is ∙ (ap (λ (l : Line). unit_width s l.phase column) line_is
    ∙ (ap (λ (p : Phase). unit_width s p column) phase
    ∙ (ap (width_of s) (column_is ∙ unit_is) ∙ ap (λ (t : FlightSizes). width_of t u.unit) (sym sizes))))

pub unit_high : (u : UnitAt) (s : FlightSizes) (line : Line) (h : ℕ) → u.sizes ≡ s → line ≡ u.line
    → h ≡ height_of s line.row → h ≡ height_of u.sizes u.line.row
unit_high u s line h sizes line_is is =
    is ∙ (ap (λ (l : Line). height_of s l.row) line_is ∙ ap (λ (t : FlightSizes). height_of t u.line.row) (sym sizes))

-- the words of its places stand before those of offsets
pub places_before : (s : FlightSizes) (column w h index : ℕ) → index ≡ index_of s w h column (Offsets 0)
    → 2 * (w / 4 * (h / 4)) ≤ index
unfolding index_of
places_before s column w h index is = omega (arith, is)

-- where the words of its places stand, by the index of its first word of offsets
pub are_place_words : (u : UnitAt) (s : FlightSizes) (column w h index : ℕ) → IsFlight s → u.sizes ≡ s
    → w ≡ width_of u.sizes u.unit → h ≡ height_of u.sizes u.line.row
    → index ≡ index_of s w h column (Offsets 0)
    → ArePlaceWords u (record {
      columns = w / 4;
      rows = h / 4;
      vectors = index - 2 * (w / 4 * (h / 4));
      modes = index - w / 4 * (h / 4);
      offsets = index;
    })
unfolding index_of
are_place_words u s column w h index flight sizes wide high is =
    let narrow : w ≤ 64 =
    subst (λ n. n ≤ 64) (ap (λ (t : FlightSizes). width_of t u.unit) (sym sizes) ∙ sym wide)
    (small_width s u.unit flight) in
    let low : h ≤ 64 =
    subst (λ n. n ≤ 64) (ap (λ (t : FlightSizes). height_of t u.line.row) (sym sizes) ∙ sym high)
    (small_height s u.line.row flight) in
    let few = few_sample_words s w h (omega (arith, narrow)) low in
    let most : w / 4 * (h / 4) ≤ 16 * (h / 4) = mul-le-mul_right (h / 4) (omega (arith, narrow)) in
    let first : index - 2 * (w / 4 * (h / 4)) ≡ sample_words s w h = omega (arith, is) in
    let turned : sample_words s w h ≡ sample_words u.sizes (width_of u.sizes u.unit) (height_of u.sizes u.line.row) =
    λ t. sample_words (sym sizes t) (wide t) (high t) in
    let count : w / 4 * (h / 4) ≡ places (width_of u.sizes u.unit) (height_of u.sizes u.line.row) =
    λ t. places (wide t) (high t) in
    record {
      columns = ap (λ n. n / 4) wide;
      rows = ap (λ n. n / 4) high;
      vectors = first ∙ turned;
      modes = omega (arith, is, count);
      offsets = omega (arith, is, count);
      few_columns = omega (arith, narrow);
      few_rows = omega (arith, low);
      few = omega (arith, is, few, most, low);
    }

module _ (u : UnitAt) (words : PlaceWords) (are : ArePlaceWords u words) where
  abbrev w : ℕ
  w = width_of u.sizes u.unit

  abbrev h : ℕ
  h = height_of u.sizes u.line.row

  -- which words have a row of places
  pub vectors_at : (i j : ℕ) → words.vectors + j * words.columns + i
      ≡ index_of u.sizes (width_of u.sizes u.unit) (height_of u.sizes u.line.row) u.unit (Vectors i j)
  unfolding index_of
  vectors_at i j =
      let e : j * words.columns ≡ j * (w / 4) = ap (λ c. j * c) are.columns in
      omega (arith, e, are.vectors)

  pub modes_at : (i j : ℕ) → words.modes + j * words.columns + i
      ≡ index_of u.sizes (width_of u.sizes u.unit) (height_of u.sizes u.line.row) u.unit (Modes i j)
  unfolding index_of
  modes_at i j =
      let e : j * words.columns ≡ j * (w / 4) = ap (λ c. j * c) are.columns in
      omega (arith, e, are.vectors, are.modes)

  pub first_at : (i j : ℕ) → words.vectors + (j * words.columns + i)
      ≡ index_of u.sizes (width_of u.sizes u.unit) (height_of u.sizes u.line.row) u.unit (Vectors i j)
  first_at i j = let e = vectors_at i j in omega (arith, e)

  pub second_at : (i j : ℕ) → words.modes + (j * words.columns + i)
      ≡ index_of u.sizes (width_of u.sizes u.unit) (height_of u.sizes u.line.row) u.unit (Modes i j)
  second_at i j = let e = modes_at i j in omega (arith, e)

  pub offsets_at : (k : ℕ) → words.offsets + k
      ≡ index_of u.sizes (width_of u.sizes u.unit) (height_of u.sizes u.line.row) u.unit (Offsets k)
  unfolding index_of
  offsets_at k = omega (arith, are.vectors, are.offsets)

  -- their numbers are of 64 bits
  row_small : (j : ℕ) → j < words.rows → j * words.columns ≤ 256
  row_small j less =
      let most : j * words.columns ≤ 16 * words.columns =
      mul-le-mul_right words.columns (omega (arith, less, are.few_rows)) in
      omega (arith, most, are.few_columns)

  pub row_fits : (j : ℕ) → j < words.rows → j * words.columns < 2 ^ 64
  row_fits j less = omega (arith, row_small j less)

  pub offset_fits : (i j : ℕ) → i < words.columns → j < words.rows → j * words.columns + i < 2 ^ 64
  offset_fits i j column less = omega (arith, row_small j less, column, are.few_columns)

  pub vectors_fit : (j : ℕ) → j < words.rows → words.vectors + j * words.columns < 2 ^ 64
  vectors_fit j less = omega (arith, row_small j less, are.few, are.offsets)

  pub modes_fit : (j : ℕ) → j < words.rows → words.modes + j * words.columns < 2 ^ 64
  modes_fit j less = omega (arith, row_small j less, are.few, are.offsets, are.modes)

  pub first_fits : (i j : ℕ) → i < words.columns → j < words.rows
      → words.vectors + (j * words.columns + i) < 2 ^ 64
  first_fits i j column less =
      omega (arith, row_small j less, column, are.few_columns, are.few, are.offsets)

  pub second_fits : (i j : ℕ) → i < words.columns → j < words.rows
      → words.modes + (j * words.columns + i) < 2 ^ 64
  second_fits i j column less =
      omega (arith, row_small j less, column, are.few_columns, are.few, are.offsets, are.modes)

  -- they are words of the unit
  module _ (phase : u.line.phase ≡ B) where
    all_words : words.vectors + 2 * places w h + 2 ≤ words_at u
    unfolding common_words
    all_words = subst (λ (p : Phase). words.vectors + 2 * places w h + 2 ≤ phase_words u.sizes p h u.unit) (sym phase)
        (omega (arith, are.vectors))

    -- a row of them ends before the next one begins
    row_ends : (j : ℕ) → j < words.rows → j * words.columns + words.columns ≤ places w h
    row_ends j less =
        let most : (j + 1) * words.columns ≤ words.rows * words.columns =
        mul-le-mul_right words.columns (omega (arith, less)) in
        let next : (j + 1) * words.columns ≡ j * words.columns + words.columns = grind arith in
        let all : words.rows * words.columns ≡ places w h =
        ap (λ r. r * words.columns) are.rows ∙ ap (λ c. h / 4 * c) are.columns ∙ turned (h / 4) (w / 4) in
        omega (arith, most, next, all)
      where
        turned : (a b : ℕ) → a * b ≡ b * a
        turned a b = grind arith

    pub vectors_inside : (j : ℕ) → j < words.rows → words.vectors + j * words.columns + words.columns ≤ words_at u
    vectors_inside j less = omega (arith, all_words, row_ends j less)

    pub modes_inside : (j : ℕ) → j < words.rows → words.modes + j * words.columns + words.columns ≤ words_at u
    modes_inside j less = omega (arith, all_words, row_ends j less, are.modes)

    pub first_inside : (i j : ℕ) → i < words.columns → j < words.rows
        → words.vectors + (j * words.columns + i) < words_at u
    first_inside i j column row = omega (arith, all_words, row_ends j row, column)

    pub second_inside : (i j : ℕ) → i < words.columns → j < words.rows
        → words.modes + (j * words.columns + i) < words_at u
    second_inside i j column row = omega (arith, all_words, row_ends j row, column, are.modes)

    pub modes_first : words.modes < words_at u
    modes_first = omega (arith, all_words, are.modes)

    pub offsets_inside : words.offsets + 2 ≤ words_at u
    offsets_inside = omega (arith, all_words, are.offsets)
