-- What must be counted before an event: lines, each with the count that it must have reached.
use Rattle.std.specs.Prelude.{ℕ, ◌≡◌, ◌+◌, ◌-◌, ◌*◌, List, [], ◌∷◌, ◌++◌, Option, Some, None, min, map, nat_eq}
use Rattle.std.specs.Prelude.{slice_index_or, if◌then◌else◌}
use Rattle.std.specs.List.{flat_map, range_with_len}
use Rattle.flight_plan.specs.Flight.{FlightRows, IsTreeUnit, picture_at}
use Rattle.hv_base.specs.declared.line.Line.{Line}
use Rattle.hv_base.specs.declared.line.Phase.{Phase}
use Rattle.hv_base.specs.declared.line.Phase.TheVariants.{B, V, H, S}
use Rattle.flight_plan.specs.declared.row_range.Reference.{Reference}
use Rattle.flight_plan.specs.declared.row_range.Reference.TheVariants.{Base, Flight}
use Rattle.flight_plan.specs.declared.row_range.RowRange.{RowRange}
use Rattle.board_core.specs.declared.event.Event.{Event}
use Rattle.board_core.specs.declared.event.Event.TheVariants.{Draw, Read, Build, Filter, Fault}
use Rattle.board_core.specs.declared.phase_rows.PhaseRows.{PhaseRows}
use Rattle.board_core.specs.Places.{full_count, line_of, IsPlaceOf, width_of}

-- the row above: two units further with entropy coding sync, the whole row without; the top row needs none
abbrev pub above_needs : FlightRows → Line → ℕ → List (Line × ℕ)
above_needs plan l x =
    if nat_eq l.row 0
    then []
    else
    ((
      line_of B l.picture (l.row - 1),
      if (picture_at plan l.picture).sync then min (x + 2) (width_of plan l) else width_of plan l,
    )
    ∷ [])

-- a phase of the rows from first to last, as many as the picture has, with all units of each
abbrev pub rows_needs : FlightRows → Phase → ℕ → ℕ → ℕ → List (Line × ℕ)
rows_needs plan phase picture first last =
    map
    (λ row. (line_of phase picture row, full_count plan (line_of phase picture row)))
    (range_with_len first (min (last + 1) (picture_at plan picture).rows - first))

-- a row of a reference picture, built; rows outside the picture, and bases, need nothing
abbrev pub row_needs : FlightRows → Option Reference → ℕ → List (Line × ℕ)
row_needs plan None row = []
row_needs plan (Some (Base _)) row = []
row_needs plan (Some (Flight picture)) row = rows_needs plan B picture row row

-- a coding tree unit's number in its picture, in raster order
abbrev pub unit_in_picture : FlightRows → Line → ℕ → ℕ
unit_in_picture plan l x = l.row * width_of plan l + x

-- the collocated picture of the slice of the coding tree unit x of a line, where it has one
abbrev pub collocated_of : FlightRows → Line → ℕ → Option Reference
collocated_of plan l x = slice_index_or (picture_at plan l.picture).collocated (unit_in_picture plan l x) None

-- the rows of a range, final
abbrev pub reference_needs : FlightRows → Reference → ℕ → ℕ → List (Line × ℕ)
reference_needs plan (Base _) first last = []
reference_needs plan (Flight picture) first last = rows_needs plan S picture first last

abbrev pub range_needs : FlightRows → RowRange → List (Line × ℕ)
range_needs plan range = reference_needs plan range.picture range.first range.last

-- the rows that the coding tree unit x of a line reaches
abbrev pub reach_needs : FlightRows → Line → ℕ → List (Line × ℕ)
reach_needs plan l x =
    flat_map (range_needs plan) (slice_index_or (picture_at plan l.picture).reach (unit_in_picture plan l x) [])

-- what parsing the coding tree unit x of a line needs
abbrev pub read_needs : FlightRows → Line → ℕ → List (Line × ℕ)
read_needs plan l x = above_needs plan l x

-- what building it needs: the same, the row of the collocated picture of its slice, and the rows that it reaches
abbrev pub build_needs : FlightRows → Line → ℕ → List (Line × ℕ)
build_needs plan l x =
    above_needs plan l x
    ++ (row_needs plan (collocated_of plan l x) l.row ++ reach_needs plan l x)

-- what a phase of a row needs as a whole: vertical edges the row as it is built; horizontal edges the vertical ones of
-- the row and of those above and below it, and these rows as they are built; sample adaptive offset the horizontal
-- edges of the three rows, and the row as it is built
abbrev pub phase_needs : FlightRows → Phase → ℕ → ℕ → List (Line × ℕ)
phase_needs plan B picture row = []
phase_needs plan V picture row = rows_needs plan B picture row row
phase_needs plan H picture row =
    rows_needs plan V picture (row - 1) (row + 1) ++ rows_needs plan B picture (row - 1) (row + 1)
phase_needs plan S picture row = rows_needs plan H picture (row - 1) (row + 1) ++ rows_needs plan B picture row row

-- what a filter line needs
abbrev pub filter_needs : FlightRows → Line → List (Line × ℕ)
filter_needs plan l = phase_needs plan l.phase l.picture l.row

-- what counting the unit x of a line of a phase needs
abbrev pub counting_needs : Phase → FlightRows → Line → ℕ → List (Line × ℕ)
counting_needs B plan l x = build_needs plan l x
counting_needs V plan l x = filter_needs plan l
counting_needs H plan l x = filter_needs plan l
counting_needs S plan l x = filter_needs plan l

abbrev pub unit_needs : FlightRows → Line → ℕ → List (Line × ℕ)
unit_needs plan l x = counting_needs l.phase plan l x

-- the needs of an event; those of a fault are what parsing the coding tree unit needs
abbrev pub IsNeedsOf : FlightRows → Event → List (Line × ℕ) → Type 0
IsNeedsOf plan Draw needs = needs ≡ []
IsNeedsOf plan (Read l x) needs = needs ≡ read_needs plan l x
IsNeedsOf plan (Build l x) needs = needs ≡ build_needs plan l x
IsNeedsOf plan (Filter l) needs = needs ≡ filter_needs plan l
IsNeedsOf plan (Fault u) needs =
    ((l : Line) → (x : ℕ) → IsPlaceOf plan u l x → l.phase ≡ B → needs ≡ read_needs plan l x)
    × (¬ IsTreeUnit plan.pictures u → needs ≡ [])

-- the needs of a phase of some rows, where there are any
abbrev pub span_needs : FlightRows → Option PhaseRows → List (Line × ℕ)
span_needs plan None = []
span_needs plan (Some span) = rows_needs plan span.phase span.picture span.first span.last
