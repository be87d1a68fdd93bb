-- What the frame of a flight needs is what the flight needs.
use Rattle.std.proofs.Common.{◌≡◌, ℕ, ◌+◌, ◌-◌, ◌<◌, refl, sym, ap, ◌∙◌, List, [], ◌∷◌, ◌++◌, min}
use Rattle.std.specs.Prelude.{map, nat_eq, if◌then◌else◌}
use Rattle.std.specs.List.{range_with_len}
use Rattle.hv_base.specs.declared.line.Line.{Line}
use Rattle.hv_base.specs.declared.line.Phase.{Phase}
use Rattle.hv_base.specs.declared.line.Phase.TheVariants.{B, V, H, S}
use Rattle.flight_plan.specs.Flight.{FlightRows, PictureRows, picture_at}
use Rattle.flight_plan.specs.declared.row_range.Reference.{Reference}
use Rattle.flight_plan.specs.declared.row_range.Reference.TheVariants.{Base, Flight}
use Rattle.flight_plan.specs.declared.row_range.RowRange.{RowRange}
use Rattle.board_core.specs.Needs.{above_needs, filter_needs, phase_needs, range_needs, read_needs, reference_needs}
use Rattle.board_core.specs.Needs.{rows_needs}
use Rattle.board_core.specs.Places.{full_count, line_of, phase_units}
use Rattle.flight_facts.specs.SpecFlights.{PlannedFlight}
use Rattle.flight_facts.specs.SpecFlights.{flight_rows}
use Rattle.flight_waits.specs.Frames.{frame_rows}
use Rattle.flight_waits.proofs.Framed.{AreAlike, alike}

units_same : (phase : Phase) (a b : PictureRows) → a.width ≡ b.width → phase_units phase a ≡ phase_units phase b
units_same B a b width = width
units_same V a b width = refl
units_same H a b width = refl
units_same S a b width = refl

module _ (f : PlannedFlight) where
  abbrev frame : FlightRows
  frame = frame_rows f.pictures

  abbrev plan : FlightRows
  plan = flight_rows f

  count_same : (phase : Phase) (k row : ℕ)
      → full_count frame (line_of phase k row) ≡ full_count plan (line_of phase k row)
  count_same phase k row = units_same phase (picture_at frame k) (picture_at plan k) (alike f k).width

  pub rows_same : (phase : Phase) (k first last : ℕ)
      → rows_needs frame phase k first last ≡ rows_needs plan phase k first last
  rows_same phase k first last = λ i.
      map
      (λ (row : ℕ). (line_of phase k row, count_same phase k row i))
      (range_with_len first (min (last + 1) ((alike f k).rows i) - first))

  above_same : (l : Line) (x : ℕ) → above_needs frame l x ≡ above_needs plan l x
  above_same l x = λ i.
      if nat_eq l.row 0
      then []
      else
      ((
        line_of B l.picture (l.row - 1),
        if (alike f l.picture).sync i then min (x + 2) ((alike f l.picture).width i) else (alike f l.picture).width i,
      )
      ∷ [])

  pub read_same : (l : Line) (x : ℕ) → read_needs frame l x ≡ read_needs plan l x
  read_same l x = above_same l x

  phase_same : (phase : Phase) (k row : ℕ) → phase_needs frame phase k row ≡ phase_needs plan phase k row
  phase_same B k row = refl
  phase_same V k row = rows_same B k row row
  phase_same H k row = λ i.
      rows_same V k (row - 1) (row + 1) i ++ rows_same B k (row - 1) (row + 1) i
  phase_same S k row = λ i. rows_same H k (row - 1) (row + 1) i ++ rows_same B k row row i

  pub filter_same : (l : Line) → filter_needs frame l ≡ filter_needs plan l
  filter_same l = phase_same l.phase l.picture l.row

  reference_same : (r : Reference) (first last : ℕ)
      → reference_needs frame r first last ≡ reference_needs plan r first last
  reference_same (Base place) first last = refl
  reference_same (Flight k) first last = rows_same S k first last

  pub range_same : (range : RowRange) → range_needs frame range ≡ range_needs plan range
  range_same range = reference_same range.picture range.first range.last
