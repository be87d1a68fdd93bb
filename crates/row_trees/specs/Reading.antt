-- The coding tree units of a row as they are read one after the other.
use Rattle.std.specs.Prelude.{◌≡◌, ℕ, ◌+◌, ◌-◌, ◌<◌, true, false, Option, Some, None, is_some, List, Result, Ok, Err}
use Rattle.hv_base.specs.declared.breach.Breach.{Breach}
use Rattle.plan_types.specs.declared.picture_plan.PicturePlan.{PicturePlan}
use Rattle.ctu_records.specs.Tree.{Ctu}
use Rattle.spec_cabac.specs.Engine.{IsLive}
use Rattle.spec_slice_data.specs.Segment.{begins_row, begins_substream, has_above, has_left, has_stored}
use Rattle.spec_picture_trees.specs.Picture.{SegmentAt}
use Rattle.unit_words.specs.UnitTrees.{Edge}
use Rattle.unit_words.specs.UnitTrees.{UnitReader}
use Rattle.known_engine_laws.specs.UnitTreeLaws.{begins_slice}
use Rattle.spec_known_units.specs.Known.{KnownUnit, contexts_behind, ctu_of, engine_behind, entries_before}
use Rattle.spec_known_units.specs.Known.{last_behind}
use Rattle.spec_known_units.specs.Known.{picture_segments, segment_having, unit_read, units_known}
use Rattle.flight_value_laws.specs.Reading.{IsLeftEdge, IsTopEdge}
use Rattle.sample_words.specs.declared.carry.Carry.{Carry}
use Rattle.flight_value_laws.specs.SpecFlights.{broken_at}
use Rattle.flight_value_laws.specs.SpecFlights.{carried_behind}

-- the units of a picture that are known and are decoded before the one at an address
abbrev pub known_to : PicturePlan → ℕ → ℕ → Option KnownUnit
known_to p address = entries_before (units_known p) address

-- this holds of the segment that has the unit at an address, if one has it
abbrev pub OfSegment : PicturePlan → ℕ → (SegmentAt → Type 0) → Type 0
OfSegment p address holds = (at : SegmentAt) → segment_having (picture_segments p) address ≡ Some at → holds at

-- a reader has what the former unit leaves, as far as the unit at an address of a segment goes on from it: the engine,
-- of which bins may be asked, within a substream; the contexts and Qp'Y, where it begins neither a row with a substream
-- of its own nor a slice
pub record IsCarried (p : PicturePlan) (address : ℕ) (reader : UnitReader) (at : SegmentAt) : Type 0 where
  pub live : begins_substream at.picture at.shape address ≡ false → IsLive reader.bins.interval
  pub engine : begins_substream at.picture at.shape address ≡ false
      → reader.bins.interval ≡ engine_behind (known_to p address (address - 1))
  pub contexts : begins_row at.picture address ≡ false → begins_slice at.shape address ≡ false
      → reader.bins.contexts ≡ contexts_behind (known_to p address (address - 1))
  pub last : begins_row at.picture address ≡ false → begins_slice at.shape address ≡ false
      → reader.last ≡ last_behind (known_to p address (address - 1))

-- the unit at an address begins a row that goes on from no other: the first row of the picture, or one with a substream
-- of its own
abbrev pub BeginsAlone : PicturePlan → ℕ → Type 0
BeginsAlone p address = 0 < address → p.pps.prediction.entropy_coding_sync_enabled_flag ≡ true

-- this is what the unit before the one at an address carries on to it, which is known
pub record CarriesBehind (p : PicturePlan) (address : ℕ) (carry : Carry) : Type 0 where
  pub known : KnownUnit
  pub is : units_known p (address - 1) ≡ Some known
  pub carried : carry ≡ carried_behind (Some known)

-- an edge has what the unit on the left of the one at an address leaves, where it is in the slice
abbrev pub IsOnLeft : PicturePlan → ℕ → Edge → SegmentAt → Type 0
IsOnLeft p address left at =
    has_left at.picture at.shape address ≡ true
    → IsLeftEdge at.picture address (ctu_of at.picture (known_to p address (address - 1))) left

-- contexts and an edge are those that the unit at an address begins with and has above it, as far as it reads them: the
-- contexts behind the second unit of the row above, where it begins a row with them, and what the unit above leaves,
-- where it is in the slice
pub record IsUnder (p : PicturePlan) (address : ℕ) (above : Edge) (stored : List ℕ) (at : SegmentAt) : Type 0 where
  pub contexts : begins_row at.picture address ≡ true → has_stored at.picture at.shape address ≡ true
      → stored ≡ contexts_behind (known_to p address (address - at.picture.width + 1))
  pub on_top : has_above at.picture at.shape address ≡ true
      → IsTopEdge at.picture address (ctu_of at.picture (known_to p address (address - at.picture.width))) above

-- what a row's reader keeps before the unit at an address is what the units before it leave
pub record StandsBefore (p : PicturePlan) (address : ℕ) (reader : UnitReader) (left : Edge) : Type 0 where
  pub carried : OfSegment p address (IsCarried p address reader)
  pub on_left : OfSegment p address (IsOnLeft p address left)

-- the unit at an address is read by those before it that are known: a segment has it, and the units that its reading
-- uses are known
abbrev pub IsReadByKnown : PicturePlan → ℕ → Type 0
IsReadByKnown p address = is_some (unit_read p (units_known p) address) ≡ true

-- what was read and what stands behind it are those of a known unit
pub record IsReadAs (known : KnownUnit) (ctu : Ctu) (reader : UnitReader) : Type 0 where
  pub read : ctu ≡ known.read
  pub engine : reader.bins.interval ≡ known.engine
  pub contexts : reader.bins.contexts ≡ known.contexts
  pub last : reader.last ≡ known.last

-- the unit at an address is known, breaks no rule, and this was read
pub record IsReadKnown (p : PicturePlan) (address : ℕ) (ctu : Ctu) (reader : UnitReader) : Type 0 where
  pub known : KnownUnit
  pub is : units_known p address ≡ Some known
  pub unbroken : broken_at p address ≡ None
  pub segment : OfSegment p address (λ at. known.segment ≡ at.number)
  pub same : IsReadAs known ctu reader

-- by an answer: the unit at an address is known as what was read; or it isn't known, and breaks this rule
abbrev pub Reads : Result (Unit {0}) Breach → PicturePlan → ℕ → Ctu → UnitReader → Type 0
Reads (Ok x) p address ctu reader = IsReadKnown p address ctu reader
Reads (Err breach) p address ctu reader = (units_known p address ≡ None) × (broken_at p address ≡ Some breach)
