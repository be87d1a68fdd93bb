-- The words of a picture, and of a flight of pictures.
use Rattle.std.proofs.Common.{◌≡◌, refl, ℕ, ◌+◌, ◌-◌, ◌*◌, ◌<◌, ◌≤◌, inl, inr, arith, ap, ◌∙◌, subst}
use Rattle.std.proofs.lemmas.Bool.{cases_lt}
use Rattle.std.proofs.Math.Nat.{mul-le-mul_right}
use Rattle.sample_words.specs.declared.sizes.FlightSizes.{FlightSizes}
use Rattle.sample_words.specs.declared.unit_word.UnitWord.{UnitWord}
use Rattle.sample_words.specs.Sizes.{IsFlight, rows, ctb_size, height_of, row_words, picture_words}
use Rattle.sample_words.specs.Words.{IsUnitWord, line_units, unit_words, part_at, start_in_row}
use Rattle.sample_words.specs.Words.{start_in_picture}
use Rattle.sample_words.specs.Words.{unit_start, word_of, first_unit_word, words, row_word_at, picture_word_at}
use Rattle.sample_words.specs.Words.{unit_word_at}
use Rattle.sample_words.proofs.Parts.{found_part, in_part, last_part, next_part}
use Rattle.sample_words.proofs.Extents.{some_rows, whole_rows}
use Rattle.sample_words.proofs.RowWords.{offset_in_row, row_found, row_below, row_owned, IsInRow, some_row_words}

-- an offset in a row that isn't the last
in_whole_row : (s : FlightSizes) (row offset : ℕ) → offset < row_words s (height_of s row) → row + 1 < rows s
    → offset < row_words s (ctb_size s)
in_whole_row s row offset lt more = let e = ap (row_words s) (whole_rows s row more) in omega arith

in_last_row : (s : FlightSizes) (row offset : ℕ) → offset < row_words s (height_of s row) → row + 1 ≡ rows s
    → offset < row_words s (height_of s (rows s - 1))
in_last_row s row offset lt e =
    let same : row ≡ rows s - 1 = omega arith in subst (λ k. offset < row_words s (height_of s k)) same lt

picture_found : (s : FlightSizes) (picture row offset : ℕ) → row < rows s → offset < row_words s (height_of s row)
    → picture_word_at s picture (row * row_words s (ctb_size s) + offset) ≡ row_word_at s picture row offset
unfolding picture_word_at
picture_found s picture row offset below lt =
    let size : ℕ = row_words s (ctb_size s) in
    let e = found_part size (rows s) row offset (some_row_words s (ctb_size s)) below (in_whole_row s row offset lt) in
    let i : row * size + offset - row * size ≡ offset = omega arith in
    rw e (ap (row_word_at s picture row) i)

-- parts that stand before the end
before_end : (size count k last i : ℕ) → k < count → (k + 1 < count → i < size) → (k + 1 ≡ count → i < last)
    → k * size + i < (count - 1) * size + last
before_end size count k last i below inside end = elim (cases_lt (k + 1) count) [
  | inl more ↦
      let lt = inside more in
      let le : (k + 1) * size ≤ (count - 1) * size = mul-le-mul_right size (omega arith) in
      let e = next_part k size in
      omega arith
  | inr none ↦
      let same : k ≡ count - 1 = omega arith in
      let e : k * size ≡ (count - 1) * size = ap (λ (n : ℕ). n * size) same in
      let lt = end (omega arith) in
      omega arith
]

picture_below : (s : FlightSizes) (row offset : ℕ) → row < rows s → offset < row_words s (height_of s row)
    → row * row_words s (ctb_size s) + offset < picture_words s
unfolding picture_words
picture_below s row offset below lt =
    before_end (row_words s (ctb_size s)) (rows s) row (row_words s (height_of s (rows s - 1))) offset below
    (in_whole_row s row offset lt) (in_last_row s row offset lt)

some_picture_words : (s : FlightSizes) → 0 < picture_words s
unfolding picture_words
some_picture_words s = let some = some_row_words s (height_of s (rows s - 1)) in omega arith

flight_found : (s : FlightSizes) (picture offset : ℕ) → picture < s.pictures → offset < picture_words s
    → unit_word_at s (picture * picture_words s + offset) ≡ picture_word_at s picture offset
unfolding unit_word_at
flight_found s picture offset below lt =
    let size : ℕ = picture_words s in
    let e = found_part size s.pictures picture offset (some_picture_words s) below (λ _. lt) in
    let i : picture * size + offset - picture * size ≡ offset = omega arith in
    rw e (ap (picture_word_at s picture) i)

-- where a word of a unit stands in its row, in its picture and behind the first word
in_row : (s : FlightSizes) (u : UnitWord) → start_in_row s u.line u.unit + u.index
    ≡ offset_in_row s u.line.phase (height_of s u.line.row) u.unit u.index
unfolding start_in_row
in_row s u = refl

in_picture : (s : FlightSizes) (u : UnitWord) → start_in_picture s u.line u.unit + u.index
    ≡ u.line.row * row_words s (ctb_size s) + offset_in_row s u.line.phase (height_of s u.line.row) u.unit u.index
unfolding start_in_picture
in_picture s u = let e = in_row s u in omega arith

pub in_flight : (s : FlightSizes) (u : UnitWord) → word_of s u
    ≡ first_unit_word s + (u.line.picture * picture_words s + (u.line.row * row_words s (ctb_size s)
    + offset_in_row s u.line.phase (height_of s u.line.row) u.unit u.index))
unfolding unit_start
in_flight s u = let e = in_picture s u in omega arith

abbrev row_offset : FlightSizes → UnitWord → ℕ
row_offset s u = offset_in_row s u.line.phase (height_of s u.line.row) u.unit u.index

pub unit_found : (s : FlightSizes) (u : UnitWord) → IsUnitWord s u
    → unit_word_at s (word_of s u - first_unit_word s) ≡ u
unit_found s u is =
    let o : ℕ = row_offset s u in
    let lt = row_below s u.line.phase (height_of s u.line.row) u.unit u.index is.unit is.index in
    let p = picture_below s u.line.row o is.line.row lt in
    let w = in_flight s u in
    let e : word_of s u - first_unit_word s
    ≡ u.line.picture * picture_words s + (u.line.row * row_words s (ctb_size s) + o) = omega arith in
    ap (unit_word_at s) e
    ∙ flight_found s u.line.picture (u.line.row * row_words s (ctb_size s) + o) is.line.picture p
    ∙ picture_found s u.line.picture u.line.row o is.line.row lt
    ∙ row_found s u.line.phase u.line.picture u.line.row u.unit u.index is.unit is.index

pub unit_behind : (s : FlightSizes) (u : UnitWord) → first_unit_word s ≤ word_of s u
unit_behind s u = let w = in_flight s u in omega arith

pub unit_below : (s : FlightSizes) (u : UnitWord) → IsUnitWord s u → word_of s u < words s
unfolding words
unit_below s u is =
    let o : ℕ = row_offset s u in
    let lt = row_below s u.line.phase (height_of s u.line.row) u.unit u.index is.unit is.index in
    let p = picture_below s u.line.row o is.line.row lt in
    let w = in_flight s u in
    let below = is.line.picture in
    let m : (u.line.picture + 1) * picture_words s ≤ s.pictures * picture_words s =
    mul-le-mul_right (picture_words s) (omega arith) in
    let e = next_part u.line.picture (picture_words s) in
    omega arith

-- a word of a picture, found by its offset
record IsInPicture (s : FlightSizes) (picture offset : ℕ) (u : UnitWord) : Type 0 where
  picture_is : u.line.picture ≡ picture
  row : u.line.row < rows s
  unit : u.unit < line_units s u.line.phase
  index : u.index < unit_words s u.line u.unit
  offset_is : u.line.row * row_words s (ctb_size s) + row_offset s u ≡ offset

of_row : (s : FlightSizes) (picture row offset : ℕ) (u : UnitWord) → row < rows s
    → row * row_words s (ctb_size s) ≤ offset
    → IsInRow s picture row (offset - row * row_words s (ctb_size s)) u → IsInPicture s picture offset u
of_row s picture row offset u below le is =
    let size : ℕ = row_words s (ctb_size s) in
    let r = is.row_is in
    let o : row * size + offset_in_row s u.line.phase (height_of s row) u.unit u.index ≡ offset =
    let e = is.offset_is in omega arith in
    record {
      picture_is = is.picture_is;
      row = omega arith;
      unit = is.unit;
      index = rw r is.index;
      offset_is = rw r o;
    }

picture_owned : (s : FlightSizes) (picture offset : ℕ) → IsFlight s → offset < picture_words s
    → IsInPicture s picture offset (picture_word_at s picture offset)
unfolding picture_word_at picture_words
picture_owned s picture offset flight lt =
    let size : ℕ = row_words s (ctb_size s) in
    let last : ℕ = row_words s (height_of s (rows s - 1)) in
    let is = in_part size (rows s) last offset (some_row_words s (ctb_size s)) (some_rows s flight) lt in
    let row : ℕ = part_at size (rows s) offset in
    let i : offset - row * size < row_words s (height_of s row) = elim (cases_lt (row + 1) (rows s)) [
      | inl more ↦ let e = ap (row_words s) (whole_rows s row more) in let l = is.inside more in omega arith
      | inr none ↦
          let below = is.part in
          let e : row + 1 ≡ rows s = omega arith in
          let same : rows s - 1 ≡ row = omega arith in
          subst (λ k. offset - row * size < row_words s (height_of s k)) same (is.end e)
    ] in
    of_row s picture row offset (row_word_at s picture row (offset - row * size)) is.part is.start
    (row_owned s picture row (offset - row * size) flight i)

-- a word behind the first one
pub record IsInFlight (s : FlightSizes) (word : ℕ) (u : UnitWord) : Type 0 where
  pub is : IsUnitWord s u
  pub word_is : word_of s u ≡ word

of_picture : (s : FlightSizes) (picture word : ℕ) (u : UnitWord) → picture < s.pictures → first_unit_word s ≤ word
    → picture * picture_words s ≤ word - first_unit_word s
    → IsInPicture s picture (word - first_unit_word s - picture * picture_words s) u → IsInFlight s word u
of_picture s picture word u below first le is =
    let size : ℕ = picture_words s in
    let p = is.picture_is in
    let o = is.offset_is in
    let w = in_flight s u in
    let e : u.line.picture * size ≡ picture * size = ap (λ (n : ℕ). n * size) p in
    record {
      is = record { line = record { picture = omega arith; row = is.row }; unit = is.unit; index = is.index };
      word_is = omega arith;
    }

pub unit_owned : (s : FlightSizes) (word : ℕ) → IsFlight s → first_unit_word s ≤ word → word < words s
    → IsInFlight s word (unit_word_at s (word - first_unit_word s))
unfolding unit_word_at words
unit_owned s word flight first lt =
    let size : ℕ = picture_words s in
    let offset : ℕ = word - first_unit_word s in
    let some = flight.some_pictures in
    let m = last_part s.pictures size some in
    let is = in_part size s.pictures size offset (some_picture_words s) (omega arith) (omega arith) in
    let picture : ℕ = part_at size s.pictures offset in
    let i : offset - picture * size < size = elim (cases_lt (picture + 1) s.pictures) [
      | inl more ↦ is.inside more
      | inr none ↦ let below = is.part in is.end (omega arith)
    ] in
    of_picture s picture word (picture_word_at s picture (offset - picture * size)) is.part first is.start
    (picture_owned s picture (offset - picture * size) flight i)
