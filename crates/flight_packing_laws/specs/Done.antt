-- A coding tree unit of a flight whose work is done.
use Rattle.std.specs.Prelude.{◌≡◌, ℕ, ◌+◌, ◌*◌, ◌<◌, Some, length, slice_get}
use Rattle.header_types.specs.SequenceParameterSets.{height_in_ctbs, width_in_ctbs}
use Rattle.plan_types.specs.declared.picture_plan.PicturePlan.{PicturePlan}
use Rattle.spec_known_units.specs.Known.{KnownUnit, units_known}
use Rattle.unit_words.specs.declared.done_unit.DoneUnit.{DoneUnit}
use Rattle.row_borders.specs.Building.{HoldsUnit}
use Rattle.row_borders.specs.SpecFlights.{PlannedFlight, folded_at}
use Rattle.row_borders.specs.SpecFlights.{flight_sizes}

-- its address in its picture
abbrev pub unit_address : PicturePlan → DoneUnit → ℕ
unit_address p d = d.row * width_in_ctbs p.sps + d.column

-- a unit whose work is done is one of the picture at a place of a flight: this is what is known of it, what was read of
-- it and what stands behind it are as it says, and what was built is what units make of the picture there
pub record IsDone (f : PlannedFlight) (k : ℕ) (p : PicturePlan) (known : KnownUnit) (d : DoneUnit) : Type 0 where
  pub picture : slice_get f.pictures k ≡ Some p
  pub row : d.row < height_in_ctbs p.sps
  pub column : d.column < width_in_ctbs p.sps
  pub unit : units_known p (unit_address p d) ≡ Some known
  pub layout : d.layout.now ≡ flight_sizes p.sps (length f.pictures)
  pub segment : d.segment ≡ known.segment
  pub records : d.records.now ≡ known.read
  pub engine : d.reader.now.bins.interval ≡ known.engine
  pub contexts : d.reader.now.bins.contexts ≡ known.contexts
  pub last : d.reader.now.last ≡ known.last
  pub built : HoldsUnit p (unit_address p d) d.built.now (folded_at f k)
