-- No unit needs its own line.
use Rattle.std.proofs.Common.{◌≡◌, ◌≢◌, refl, ℕ, ◌+◌, ◌-◌, ◌<◌, inl, inr, arith, ap, sym, ◌∙◌, subst}
use Rattle.std.proofs.Common.{List, [], ◌++◌, length, get_or, min, All, Option, Some, None, slice_index_or}
use Rattle.std.proofs.lemmas.Bool.{cases_eq, cases_lt, eq-eqb, ne_eqb}
use Rattle.std.proofs.lemmas.List.{get_or_past}
use Rattle.std.proofs.lemmas.List.Elements.{All-append, All-cons, All-from_get_or, All-map, All-nil}
use Rattle.std.specs.List.{range_with_len}
use Rattle.hv_base.specs.declared.line.Line.{Line}
use Rattle.hv_base.specs.declared.line.Phase.{Phase}
use Rattle.hv_base.specs.declared.line.Phase.TheVariants.{B, V, H, S}
use Rattle.flight_plan.specs.Flight.{FlightRows, IsEarlier, IsFlight, IsNoneOrEarlier, picture_at}
use Rattle.flight_plan.specs.declared.row_range.Reference.{Reference}
use Rattle.flight_plan.specs.declared.row_range.Reference.TheVariants.{Base, Flight}
use Rattle.flight_plan.specs.declared.row_range.RowRange.{RowRange}
use Rattle.board_core.specs.Needs.{above_needs, build_needs, collocated_of, counting_needs, phase_needs, range_needs}
use Rattle.board_core.specs.Needs.{reach_needs, read_needs, reference_needs, row_needs, rows_needs, unit_in_picture}
use Rattle.board_core.specs.Needs.{unit_needs}
use Rattle.board_core.specs.Places.{delay, full_count, IsLine, line_of}
use Rattle.board_core.proofs.Counting.{pieces_all}
use Rattle.board_core.proofs.Order.{line_inside}
use Rattle.sample_words.specs.declared.sizes.FlightSizes.{FlightSizes}
use Rattle.sample_words.specs.Words.{line_number}
use Rattle.flight_lines.specs.Flights.{IsSized}
use Rattle.flight_lines.specs.Numbers.{numbered, numbered_needs}
use Rattle.flight_lines.proofs.Needed.{AreOfLines, above_lines, unit_lines}
use Rattle.flight_lines.proofs.Numbered.{same_number}
use Rattle.line_words.specs.Passes.{NameOthers}

-- phases of different delays differ
pub apart_phases : (p q r : Phase) → p ≡ r → q ≡ r → delay p < delay q → ⊥
apart_phases p q r e f less = let same : delay p ≡ delay q = ap delay (e ∙ sym f) in omega (arith, less, same)

module _ (plan : FlightRows) (l : Line) where
  abbrev pub IsOther : Line × ℕ → Type 0
  IsOther need = need.0 ≢ l

  pub rows_other : (phase : Phase) (k first last : ℕ) → (phase ≡ l.phase → k ≡ l.picture → ⊥)
      → All IsOther (rows_needs plan phase k first last)
  rows_other phase k first last apart =
      let n : ℕ = min (last + 1) (picture_at plan k).rows - first in
      let f : ℕ → Line × ℕ = λ r. (line_of phase k r, full_count plan (line_of phase k r)) in
      All-map IsOther f (range_with_len first n)
      (All-from_get_or (λ r. IsOther (f r)) (range_with_len first n) 0
      (λ i inside e. apart (ap (λ (m : Line). m.phase) e) (ap (λ (m : Line). m.picture) e)))

  above_other : (x : ℕ) → All IsOther (above_needs plan l x)
  above_other x =
      elim (cases_eq l.row 0) [
        | inl top ↦ let yes = eq-eqb l.row 0 top in rw yes (All-nil IsOther)
        | inr low ↦
            let no = ne_eqb l.row 0 low in
            let upper : (m : Line) → m.row ≡ l.row - 1 → m ≢ l =
            λ m row e. let same : m.row ≡ l.row = ap (λ (k : Line). k.row) e in low (omega (arith, row, same)) in
            rw no (All-cons IsOther _ [] (upper _ refl) (All-nil IsOther))
      ]

  row_other : (o : Option Reference) (row : ℕ) → IsNoneOrEarlier l.picture o → All IsOther (row_needs plan o row)
  row_other None row earlier = All-nil IsOther
  row_other (Some (Base place)) row earlier = All-nil IsOther
  row_other (Some (Flight k)) row earlier = rows_other B k row row (λ e same. omega (arith, earlier, same))

  pub reference_other : (r : Reference) (first last : ℕ) → IsEarlier l.picture r
      → All IsOther (reference_needs plan r first last)
  reference_other (Base place) first last earlier = All-nil IsOther
  reference_other (Flight k) first last earlier = rows_other S k first last (λ e same. omega (arith, earlier, same))

  -- what a phase of loop filters needs is of other phases
  phase_other : (phase : Phase) (k row : ℕ) → phase ≡ l.phase → All IsOther (phase_needs plan phase k row)
  phase_other B k row is = All-nil IsOther
  phase_other V k row is = rows_other B k row row (λ e same. apart_phases B V l.phase e is (omega arith))
  phase_other H k row is =
      All-append IsOther (rows_needs plan V k (row - 1) (row + 1)) (rows_needs plan B k (row - 1) (row + 1))
      (rows_other V k (row - 1) (row + 1) (λ e same. apart_phases V H l.phase e is (omega arith)))
      (rows_other B k (row - 1) (row + 1) (λ e same. apart_phases B H l.phase e is (omega arith)))
  phase_other S k row is =
      All-append IsOther (rows_needs plan H k (row - 1) (row + 1)) (rows_needs plan B k row row)
      (rows_other H k (row - 1) (row + 1) (λ e same. apart_phases H S l.phase e is (omega arith)))
      (rows_other B k row row (λ e same. apart_phases B S l.phase e is (omega arith)))

  module _ (flight : IsFlight plan) (line : IsLine plan l) where
    collocated_other : (x : ℕ) → IsNoneOrEarlier l.picture (collocated_of plan l x)
    collocated_other x =
        let references : List (Option Reference) = (picture_at plan l.picture).collocated in
        let at : ℕ = unit_in_picture plan l x in
        let earlier = (flight.earlier l.picture (line_inside plan l line)).collocated in
        elim (cases_lt at (length references)) [
          | inl h ↦ earlier at None h
          | inr h ↦ subst (IsNoneOrEarlier l.picture) (sym (get_or_past references at None h)) tt
        ]

    reach_other : (x : ℕ) → All IsOther (reach_needs plan l x)
    reach_other x =
        let reach : List (List RowRange) = (picture_at plan l.picture).reach in
        let at : ℕ = unit_in_picture plan l x in
        let earlier = (flight.earlier l.picture (line_inside plan l line)).reach in
        pieces_all IsOther (range_needs plan) (slice_index_or reach at [])
        (λ k d inside.
        elim (cases_lt at (length reach)) [
          | inl h ↦ let range : RowRange = get_or (slice_index_or reach at []) k d in
              reference_other range.picture range.first range.last (earlier at [] h k d inside)
          | inr h ↦ let none : slice_index_or reach at [] ≡ [] = get_or_past reach at [] h in
              let few : length (slice_index_or reach at []) ≡ 0 = ap length none in
              absurd (omega (arith, few, inside))
        ])

    build_other : (x : ℕ) → All IsOther (build_needs plan l x)
    build_other x =
        let row = row_needs plan (collocated_of plan l x) l.row in
        All-append IsOther (above_needs plan l x) (row ++ reach_needs plan l x) (above_other x)
        (All-append IsOther row (reach_needs plan l x) (row_other (collocated_of plan l x) l.row (collocated_other x))
        (reach_other x))

    counting_other : (phase : Phase) (x : ℕ) → All IsOther (counting_needs phase plan l x)
    counting_other B x = build_other x
    counting_other V x = phase_other l.phase l.picture l.row refl
    counting_other H x = phase_other l.phase l.picture l.row refl
    counting_other S x = phase_other l.phase l.picture l.row refl

-- other lines have other numbers
pub other_numbers : (plan : FlightRows) (s : FlightSizes) (l : Line) → IsSized plan s → IsLine plan l
    → (needs : List (Line × ℕ)) → AreOfLines plan needs → All (λ need. need.0 ≢ l) needs
    → NameOthers (line_number s l) (numbered_needs s needs)
other_numbers plan s l sized line needs of_lines others =
    All-map (λ (need : ℕ × ℕ). need.0 ≢ line_number s l) (numbered s) needs
    (λ k d inside e.
    others k d inside (same_number plan s sized (get_or needs k d).0 l (of_lines k d inside) line e))

pub unit_names_others : (plan : FlightRows) (s : FlightSizes) (l : Line) (x : ℕ) → IsSized plan s → IsLine plan l
    → NameOthers (line_number s l) (numbered_needs s (unit_needs plan l x))
unit_names_others plan s l x sized line =
    other_numbers plan s l sized line (unit_needs plan l x) (unit_lines plan l x line)
    (counting_other plan l sized.flight line l.phase x)

pub read_names_others : (plan : FlightRows) (s : FlightSizes) (l : Line) (x : ℕ) → IsSized plan s → IsLine plan l
    → NameOthers (line_number s l) (numbered_needs s (read_needs plan l x))
read_names_others plan s l x sized line =
    other_numbers plan s l sized line (read_needs plan l x) (above_lines plan l x line) (above_other plan l x)
