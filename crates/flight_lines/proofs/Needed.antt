-- What units need is of lines of the flight, and what is needed of lines by number is what is needed of the lines.
use Rattle.std.proofs.Common.{◌≡◌, ℕ, ◌+◌, ◌-◌, ◌<◌, ◌≤◌, inl, inr, arith, sym, subst}
use Rattle.std.proofs.Common.{List, [], ◌++◌, length, get_or, min, All, Option, Some, None, slice_index_or}
use Rattle.std.proofs.lemmas.Bool.{cases_eq, eq-eqb, ne_eqb}
use Rattle.std.proofs.lemmas.List.{get_or-map, length-map}
use Rattle.std.proofs.lemmas.List.Elements.{All-append, All-cons, All-from_get_or, All-map, All-nil}
use Rattle.std.proofs.lemmas.List.FromFn.{get_or-range_with_len, length-range_with_len}
use Rattle.std.proofs.lemmas.Option.{get_or_from_slice_get, slice_get-map, slice_get_within}
use Rattle.std.specs.List.{range_with_len}
use Rattle.std.specs.Option.{option_map}
use Rattle.std.specs.Prelude.{◌↔◌, slice_get}
use Rattle.hv_base.specs.declared.line.Line.{Line}
use Rattle.hv_base.specs.declared.line.Phase.{Phase}
use Rattle.hv_base.specs.declared.line.Phase.TheVariants.{B, V, H, S}
use Rattle.flight_plan.specs.Flight.{FlightRows, picture_at}
use Rattle.flight_plan.specs.declared.row_range.Reference.{Reference}
use Rattle.flight_plan.specs.declared.row_range.Reference.TheVariants.{Base, Flight}
use Rattle.flight_plan.specs.declared.row_range.RowRange.{RowRange}
use Rattle.board_core.specs.Needs.{above_needs, build_needs, collocated_of, counting_needs, phase_needs, range_needs}
use Rattle.board_core.specs.Needs.{reach_needs, read_needs, reference_needs, row_needs, rows_needs, unit_in_picture}
use Rattle.board_core.specs.Needs.{unit_needs}
use Rattle.board_core.specs.Places.{full_count, IsLine, line_of}
use Rattle.board_core.specs.States.{AreCounted, CoreState, count_of}
use Rattle.board_core.proofs.Counting.{pieces_all}
use Rattle.sample_words.specs.declared.sizes.FlightSizes.{FlightSizes}
use Rattle.sample_words.specs.Words.{IsLine as IsWordLine, line_number, lines}
use Rattle.progress_words.specs.Core.{AreMet}
use Rattle.flight_lines.specs.Flights.{BoardFlight, IsSized, meaning_of}
use Rattle.flight_lines.specs.Numbers.{AreOfFlight, numbered, numbered_needs}
use Rattle.flight_lines.proofs.Numbered.{number_less, number_line, word_line}

module _ (plan : FlightRows) where
  abbrev pub IsOfLine : Line × ℕ → Type 0
  IsOfLine need = IsLine plan need.0

  -- all needs are of lines of the flight
  abbrev pub AreOfLines : List (Line × ℕ) → Type 0
  AreOfLines needs = All IsOfLine needs

  rows_lines : (phase : Phase) (k first last : ℕ) → AreOfLines (rows_needs plan phase k first last)
  rows_lines phase k first last =
      let n : ℕ = min (last + 1) (picture_at plan k).rows - first in
      let f : ℕ → Line × ℕ = λ r. (line_of phase k r, full_count plan (line_of phase k r)) in
      All-map IsOfLine f (range_with_len first n)
      (All-from_get_or (λ r. IsOfLine (f r)) (range_with_len first n) 0
      (λ i inside.
      let lt : i < n = omega (arith, length-range_with_len first n) in
      let e = get_or-range_with_len first n i 0 lt in
      let here : first + i < (picture_at plan k).rows = omega arith in
      subst (λ r. IsOfLine (f r)) (sym e) here))

  pub above_lines : (l : Line) (x : ℕ) → IsLine plan l → AreOfLines (above_needs plan l x)
  above_lines l x line =
      elim (cases_eq l.row 0) [
        | inl top ↦ let yes = eq-eqb l.row 0 top in rw yes (All-nil IsOfLine)
        | inr low ↦ let no = ne_eqb l.row 0 low in
            rw no (All-cons IsOfLine _ [] (omega (arith, line)) (All-nil IsOfLine))
      ]

  row_lines : (o : Option Reference) (row : ℕ) → AreOfLines (row_needs plan o row)
  row_lines None row = All-nil IsOfLine
  row_lines (Some (Base place)) row = All-nil IsOfLine
  row_lines (Some (Flight k)) row = rows_lines B k row row

  reference_lines : (r : Reference) (first last : ℕ) → AreOfLines (reference_needs plan r first last)
  reference_lines (Base place) first last = All-nil IsOfLine
  reference_lines (Flight k) first last = rows_lines S k first last

  reach_lines : (l : Line) (x : ℕ) → AreOfLines (reach_needs plan l x)
  reach_lines l x =
      pieces_all IsOfLine (range_needs plan)
      (slice_index_or (picture_at plan l.picture).reach (unit_in_picture plan l x) [])
      (λ k d inside.
      let range : RowRange =
      get_or (slice_index_or (picture_at plan l.picture).reach (unit_in_picture plan l x) []) k d in
      reference_lines range.picture range.first range.last)

  build_lines : (l : Line) (x : ℕ) → IsLine plan l → AreOfLines (build_needs plan l x)
  build_lines l x line =
      let row = row_needs plan (collocated_of plan l x) l.row in
      All-append IsOfLine (above_needs plan l x) (row ++ reach_needs plan l x) (above_lines l x line)
      (All-append IsOfLine row (reach_needs plan l x) (row_lines (collocated_of plan l x) l.row) (reach_lines l x))

  phase_lines : (phase : Phase) (k row : ℕ) → AreOfLines (phase_needs plan phase k row)
  phase_lines B k row = All-nil IsOfLine
  phase_lines V k row = rows_lines B k row row
  phase_lines H k row =
      All-append IsOfLine (rows_needs plan V k (row - 1) (row + 1)) (rows_needs plan B k (row - 1) (row + 1))
      (rows_lines V k (row - 1) (row + 1)) (rows_lines B k (row - 1) (row + 1))
  phase_lines S k row =
      All-append IsOfLine (rows_needs plan H k (row - 1) (row + 1)) (rows_needs plan B k row row)
      (rows_lines H k (row - 1) (row + 1)) (rows_lines B k row row)

  counting_lines : (phase : Phase) (l : Line) (x : ℕ) → IsLine plan l → AreOfLines (counting_needs phase plan l x)
  counting_lines B l x line = build_lines l x line
  counting_lines V l x line = phase_lines l.phase l.picture l.row
  counting_lines H l x line = phase_lines l.phase l.picture l.row
  counting_lines S l x line = phase_lines l.phase l.picture l.row

  pub unit_lines : (l : Line) (x : ℕ) → IsLine plan l → AreOfLines (unit_needs plan l x)
  unit_lines l x line = counting_lines l.phase l x line

  module _ (s : FlightSizes) (sized : IsSized plan s) (state : CoreState) (count : ℕ → ℕ)
      (same : (l : Line) → IsLine plan l → count_of plan state l ≡ count (line_number s l)) where
    abbrev pub IsMet : ℕ × ℕ → Type 0
    IsMet need = (need.0 < lines s) × (need.1 ≤ count need.0)

    -- needs that are met by number are counted
    pub counted_met : (needs : List (Line × ℕ)) → AreOfLines needs → All IsMet (numbered_needs s needs)
        → AreCounted plan state needs
    counted_met needs of_lines met k d inside =
        let need : Line × ℕ = get_or needs k d in
        let there : k < length (numbered_needs s needs) = omega (arith, inside, length-map needs (numbered s)) in
        let here : IsMet (numbered s need) =
        subst IsMet (get_or-map (numbered s) needs k d (numbered s d) inside) (met k (numbered s d) there) in
        let e = same need.0 (of_lines k d inside) in
        omega (arith, here.1, e)

    -- and needs that are counted are met
    pub met_counted : (needs : List (Line × ℕ)) → AreOfLines needs → AreCounted plan state needs
        → All IsMet (numbered_needs s needs)
    met_counted needs of_lines counted =
        All-map IsMet (numbered s) needs (λ k d inside.
        let need : Line × ℕ = get_or needs k d in
        let line : IsLine plan need.0 = of_lines k d inside in
        let e = same need.0 line in
        let now : need.1 ≤ count_of plan state need.0 = counted k d inside in
        let less = number_less plan s sized need.0 line in
        (less, omega (arith, now, e)))

-- what is needed is of lines of the flight
pub of_flight : (plan : FlightRows) (s : FlightSizes) → IsSized plan s → (needs : List (Line × ℕ))
    → AreOfLines plan needs → AreOfFlight s needs
of_flight plan s sized needs all k d inside = word_line plan s sized (get_or needs k d).0 (all k d inside)

pub unit_of_flight : (plan : FlightRows) (s : FlightSizes) (l : Line) (x : ℕ) → IsSized plan s → IsLine plan l
    → AreOfFlight s (unit_needs plan l x)
unit_of_flight plan s l x sized line = of_flight plan s sized (unit_needs plan l x) (unit_lines plan l x line)

pub read_of_flight : (plan : FlightRows) (s : FlightSizes) (l : Line) (x : ℕ) → IsSized plan s → IsLine plan l
    → AreOfFlight s (read_needs plan l x)
read_of_flight plan s l x sized line = of_flight plan s sized (read_needs plan l x) (above_lines plan l x line)

-- a need of a list, and by number
pub need_line : (s : FlightSizes) (needs : List (Line × ℕ)) (i : ℕ) (need : Line × ℕ) → AreOfFlight s needs
    → slice_get needs i ≡ Some need → IsWordLine s need.0
need_line s needs i need all e =
    subst (λ (n : Line × ℕ). IsWordLine s n.0) (get_or_from_slice_get needs i need need e)
    (all i need (slice_get_within needs i need e))

pub need_by_number : (s : FlightSizes) (needs : List (Line × ℕ)) (i : ℕ)
    → slice_get (numbered_needs s needs) i ≡ option_map (numbered s) (slice_get needs i)
need_by_number s needs i = slice_get-map (numbered s) needs i

-- what is needed by number of a unit of a line, and what is needed of lines
module _ (f : BoardFlight) (sized : IsSized f.plan f.sizes) (state : CoreState) (count : ℕ → ℕ)
    (same : (l : Line) → IsLine f.plan l → count_of f.plan state l ≡ count (line_number f.sizes l)) where
  pub unit_met : (l : Line) (x : ℕ) → IsLine f.plan l
      → AreMet (meaning_of f) count ((meaning_of f).needs (line_number f.sizes l) x)
      ↔ AreCounted f.plan state (unit_needs f.plan l x)
  unfolding meaning_of
  unit_met l x line =
      let again = number_line f.plan f.sizes sized l line in
      let of_lines = unit_lines f.plan l x line in
      let P : Line → Type 0 = λ k. AreMet (meaning_of f) count (numbered_needs f.sizes (unit_needs f.plan k x)) in (
        λ met. counted_met f.plan f.sizes sized state count same (unit_needs f.plan l x) of_lines (subst P again met),
        λ counted.
            subst P (sym again)
            (met_counted f.plan f.sizes sized state count same (unit_needs f.plan l x) of_lines counted),
      )

  pub read_met : (l : Line) (x : ℕ) → IsLine f.plan l
      → AreMet (meaning_of f) count ((meaning_of f).read_needs (line_number f.sizes l) x)
      ↔ AreCounted f.plan state (read_needs f.plan l x)
  unfolding meaning_of
  read_met l x line =
      let again = number_line f.plan f.sizes sized l line in
      let of_lines = above_lines f.plan l x line in
      let P : Line → Type 0 = λ k. AreMet (meaning_of f) count (numbered_needs f.sizes (read_needs f.plan k x)) in (
        λ met. counted_met f.plan f.sizes sized state count same (read_needs f.plan l x) of_lines (subst P again met),
        λ counted.
            subst P (sym again)
            (met_counted f.plan f.sizes sized state count same (read_needs f.plan l x) of_lines counted),
      )
