-- Reading a coding tree unit over what the units that it uses leave.
use Rattle.std.specs.Prelude.{◌≡◌, ℕ, ◌+◌, ◌-◌, ◌*◌, ◌^◌, ◌<◌, true, false, Some, None, Result, Ok, Err}
use Rattle.hv_base.specs.declared.breach.Breach.{Breach}
use Rattle.hv_base.specs.declared.line.Line.{Line}
use Rattle.hv_base.specs.declared.line.Phase.TheVariants.{B}
use Rattle.header_types.specs.SequenceParameterSets.{width_in_ctbs}
use Rattle.plan_types.specs.declared.picture_plan.PicturePlan.{PicturePlan}
use Rattle.ctu_records.specs.Tree.{Ctu}
use Rattle.spec_cabac.specs.Bins.{State}
use Rattle.spec_slice_data.specs.declared.syntax.End.{End}
use Rattle.spec_slice_data.specs.Segment.{PictureShape, Between, before_unit, begins_row, begins_substream, column_of}
use Rattle.spec_slice_data.specs.Segment.{has_above, has_left, has_stored, row_of, side_of}
use Rattle.spec_known_units.specs.SpecPictureTrees.{SegmentAt}
use Rattle.known_picture_laws.specs.UnitTrees.{Edge}
use Rattle.known_picture_laws.specs.UnitTrees.{place_of}
use Rattle.known_picture_laws.specs.UnitTrees.{unit_over}
use Rattle.known_picture_laws.specs.UnitTreeLaws.{begins_slice}
use Rattle.spec_known_units.specs.Known.{Entries, KnownUnit, contexts_behind, ctu_of, engine_behind, last_behind}
use Rattle.spec_known_units.specs.Known.{units_known}
use Rattle.known_picture_laws.specs.BoardCore.{line_of}
use Rattle.known_picture_laws.specs.BoardCore.{ReadingUses}
use Rattle.known_picture_laws.specs.SpecFlights.{PlannedFlight}
use Rattle.known_picture_laws.specs.SpecFlights.{broken_at, flight_rows, is_sound}

-- an edge has what the unit on the left of the one at an address leaves to it: its sample adaptive offset, and its
-- rightmost places, as far as the picture has them
pub record IsLeftEdge (picture : PictureShape) (address : ℕ) (ctu : Ctu) (edge : Edge) : Type 0 where
  pub sao : edge.sao ≡ ctu.sao
  pub places : (k : ℕ) → k < 2 ^ picture.size → 2 ^ picture.size * row_of picture address + k < picture.down
      → place_of edge k ≡ side_of ctu (2 ^ picture.size - 1) k

-- an edge has what the unit above it leaves: its sample adaptive offset, and its lowest places, as far as the picture
-- has them
pub record IsTopEdge (picture : PictureShape) (address : ℕ) (ctu : Ctu) (edge : Edge) : Type 0 where
  pub sao : edge.sao ≡ ctu.sao
  pub places : (k : ℕ) → k < 2 ^ picture.size → 2 ^ picture.size * column_of picture address + k < picture.across
      → place_of edge k ≡ side_of ctu k (2 ^ picture.size - 1)

-- what stands before the unit at an address of a segment, and the edges beside it, are what these units before it
-- leave, as far as it reads them: the engine, within a substream; the contexts and Qp'Y of the former unit, where it
-- begins neither a row with a substream of its own nor a slice; the contexts behind the second unit of the row above,
-- where it begins a row with them; and the edges of the units on its left and above it, where they are in the slice
pub record IsLeftBefore (at : SegmentAt) (earlier : Entries) (address : ℕ) (before : Between) (left above : Edge)
    : Type 0 where
  pub engine : begins_substream at.picture at.shape address ≡ false
      → before.engine ≡ engine_behind (earlier (address - 1))
  pub contexts : begins_row at.picture address ≡ false → begins_slice at.shape address ≡ false
      → before.contexts ≡ contexts_behind (earlier (address - 1))
  pub last : begins_row at.picture address ≡ false → begins_slice at.shape address ≡ false
      → before.last ≡ last_behind (earlier (address - 1))
  pub stored : begins_row at.picture address ≡ true → has_stored at.picture at.shape address ≡ true
      → before.stored ≡ contexts_behind (earlier (address - at.picture.width + 1))
  pub on_left : has_left at.picture at.shape address ≡ true
      → IsLeftEdge at.picture address (ctu_of at.picture (earlier (address - 1))) left
  pub on_top : has_above at.picture at.shape address ≡ true
      → IsTopEdge at.picture address (ctu_of at.picture (earlier (address - at.picture.width))) above

-- a unit of a segment that was read, with what it leaves to the next one; or the rule that it breaks
abbrev pub unit_left : SegmentAt → Result ((Ctu × End) × State) Breach → Result KnownUnit Breach
unit_left at (Err breach) = Err breach
unit_left at (Ok r) = Ok (record {
  segment = at.number;
  read = r.0.0;
  engine = r.1.0;
  contexts = r.1.1;
  last = r.0.0.quantization.last;
})

-- the unit at an address, over these edges, from where its engine stands
abbrev pub read_from : SegmentAt → ℕ → Edge → Edge → Result Between Breach → Result KnownUnit Breach
read_from at address left above (Err breach) = Err breach
read_from at address left above (Ok start) =
    unit_left at (unit_over at.syntax at.picture at.shape address left above start.last (start.engine, start.contexts))

-- the unit at an address, over these edges, behind what stands before it
abbrev pub read_over : SegmentAt → ℕ → Edge → Edge → Between → Result KnownUnit Breach
read_over at address left above before =
    read_from at address left above (before_unit at.picture at.shape address before)

-- entries of a picture agree on the units that reading the unit x of its row uses
abbrev pub AgreeWhereRead : PlannedFlight → ℕ → ℕ → ℕ → PicturePlan → Entries → Entries → Type 0
AgreeWhereRead f k row x p a b =
    (m : Line) (y : ℕ) → ReadingUses (flight_rows f) (line_of B k row) x m y
    → a (m.row * width_in_ctbs p.sps + y) ≡ b (m.row * width_in_ctbs p.sps + y)

-- the units that reading the unit x of a row of the picture at a place of a flight uses are sound
abbrev pub AreUsesSound : PlannedFlight → ℕ → ℕ → ℕ → Type 0
AreUsesSound f k row x =
    (m : Line) (y : ℕ) → ReadingUses (flight_rows f) (line_of B k row) x m y → is_sound f m y ≡ true

-- the unit at an address of a picture is one of them
pub record IsUsed (f : PlannedFlight) (k row x : ℕ) (p : PicturePlan) (address : ℕ) : Type 0 where
  pub line : Line
  pub unit : ℕ
  pub uses : ReadingUses (flight_rows f) (line_of B k row) x line unit
  pub is : address ≡ line.row * width_in_ctbs p.sps + unit

-- this is what is known of the unit at an address, or the rule that it breaks
abbrev pub IsKnownAs : PicturePlan → ℕ → Result KnownUnit Breach → Type 0
IsKnownAs p address (Ok known) = (units_known p address ≡ Some known) × (broken_at p address ≡ None)
IsKnownAs p address (Err breach) = (units_known p address ≡ None) × (broken_at p address ≡ Some breach)
