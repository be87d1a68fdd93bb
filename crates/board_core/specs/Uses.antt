-- The units whose values the units of a flight are made from. What is read of a base is none of them.
use Rattle.std.specs.Prelude.{ℕ, ◌≡◌, ◌+◌, ◌-◌, ◌<◌, ◌≤◌, ◌⊎◌, false, Some}
use Rattle.std.specs.List.{Contains}
use Rattle.flight_plan.specs.Flight.{FlightRows, picture_at}
use Rattle.flight_plan.specs.declared.row_range.Reference.TheVariants.{Flight}
use Rattle.flight_plan.specs.declared.row_range.RowRange.{RowRange}
use Rattle.hv_base.specs.declared.line.Line.{Line}
use Rattle.hv_base.specs.declared.line.Phase.{Phase}
use Rattle.hv_base.specs.declared.line.Phase.TheVariants.{B, V, H, S}
use Rattle.board_core.specs.declared.event.Event.{Event}
use Rattle.board_core.specs.declared.event.Event.TheVariants.{Draw, Read, Build, Filter, Fault}
use Rattle.board_core.specs.Places.{full_count, line_of, IsLine, IsPlaceOf, width_of}
use Rattle.board_core.specs.Needs.{collocated_of}
use Rattle.board_core.specs.Reach.{told_reach}
use Rattle.board_core.specs.States.{CoreState, count_of}

-- the row above a coding tree unit's, in the same picture
abbrev pub above_of : Line → Line
above_of l = line_of B l.picture (l.row - 1)

-- reading the coding tree unit x of a line uses the unit y of line m: one before it in its row, the last of which
-- leaves the state of entropy coding and the quantization parameter; one above it, from above left to above right, of
-- which the last leaves the contexts that a row begins with under entropy coding sync; or, where a row starts without
-- sync, the last one of the row above, which leaves that state (6.4.1, 8.6.1, 9.3.1)
pub data ReadingUses (plan : FlightRows) (l : Line) (x : ℕ) (m : Line) (y : ℕ) : Type 0 where
  Former : m ≡ l → y < x → ReadingUses plan l x m y
  Above : m ≡ above_of l → 0 < l.row → x ≤ y + 1 → y ≤ x + 1 → y < width_of plan l → ReadingUses plan l x m y
  Carried : m ≡ above_of l → 0 < l.row → (picture_at plan l.picture).sync ≡ false → x ≡ 0 → y + 1 ≡ width_of plan l
      → ReadingUses plan l x m y

-- building it uses those that reading uses, since prediction reads the samples and the motion beside it there; the
-- units of its row of the collocated picture of its slice (8.5.3.2.8); and the final rows of reference pictures that
-- its vectors reach (8.5.3.3.3)
pub data BuildingUses (plan : FlightRows) (l : Line) (x : ℕ) (m : Line) (y : ℕ) : Type 0 where
  Reading : ReadingUses plan l x m y → BuildingUses plan l x m y
  Collocated : (picture : ℕ) → collocated_of plan l x ≡ Some (Flight picture) → m ≡ line_of B picture l.row
      → IsLine plan m → y < full_count plan m → BuildingUses plan l x m y
  Reached : (range : RowRange) (picture row : ℕ) → Contains (told_reach plan l x) range
      → range.picture ≡ Flight picture → range.first ≤ row → row ≤ range.last → m ≡ line_of S picture row
      → IsLine plan m → y ≡ 0 → BuildingUses plan l x m y

-- y is a unit of a phase of the line's own row
pub record IsOfRow (plan : FlightRows) (phase : Phase) (l m : Line) (y : ℕ) : Type 0 where
  pub line : m ≡ line_of phase l.picture l.row
  pub unit : y < full_count plan m

-- y is a unit of a phase of the line's row, or of the one above or below it
pub record IsOfRowsBeside (plan : FlightRows) (phase : Phase) (l m : Line) (y : ℕ) : Type 0 where
  pub row : ℕ
  pub line : m ≡ line_of phase l.picture row
  pub up : l.row ≤ row + 1
  pub down : row ≤ l.row + 1
  pub inside : IsLine plan m
  pub unit : y < full_count plan m

-- filtering a line of a phase uses the unit y of line m. Vertical edges read the row as it is built. Horizontal edges
-- read behind the vertical ones the row and four lines above and below it, and the units of these rows for motion,
-- quantization parameters and what is kept (8.7.2). Sample adaptive offset reads behind the horizontal edges the row
-- and one line above and below it, and the units of the row for offsets and what is kept (8.7.3)
abbrev pub FilteringUses : Phase → FlightRows → Line → Line → ℕ → Type 0
FilteringUses B plan l m y = ⊥
FilteringUses V plan l m y = IsOfRow plan B l m y
FilteringUses H plan l m y = IsOfRowsBeside plan V l m y ⊎ IsOfRowsBeside plan B l m y
FilteringUses S plan l m y = IsOfRowsBeside plan H l m y ⊎ IsOfRow plan B l m y

-- making the unit x of a line of a phase uses the unit y of line m
abbrev pub MakingUses : Phase → FlightRows → Line → ℕ → Line → ℕ → Type 0
MakingUses B plan l x m y = BuildingUses plan l x m y
MakingUses V plan l x m y = FilteringUses V plan l m y
MakingUses H plan l x m y = FilteringUses H plan l m y
MakingUses S plan l x m y = FilteringUses S plan l m y

abbrev pub UnitUses : FlightRows → Line → ℕ → Line → ℕ → Type 0
UnitUses plan l x m y = MakingUses l.phase plan l x m y

-- an event uses the unit y of line m; a fault what reading its coding tree unit uses
abbrev pub Uses : FlightRows → Event → Line → ℕ → Type 0
Uses plan Draw m y = ⊥
Uses plan (Read l x) m y = ReadingUses plan l x m y
Uses plan (Build l x) m y = BuildingUses plan l x m y
Uses plan (Filter l) m y = FilteringUses l.phase plan l m y
Uses plan (Fault u) m y =
    (l : Line) × (x : ℕ) × IsPlaceOf plan u l x × (l.phase ≡ B) × ReadingUses plan l x m y

-- y is a unit of a line of the flight, and counted
pub record IsCounted (plan : FlightRows) (s : CoreState) (m : Line) (y : ℕ) : Type 0 where
  pub line : IsLine plan m
  pub counted : y < count_of plan s m
