-- A picture of the flight of a board, as a worker knows it, and its coding tree units.
use Rattle.std.specs.Prelude.{ℕ, ◌≡◌, ◌+◌, ◌*◌, Some, slice_get}
use Rattle.hv_base.specs.declared.line.Phase.TheVariants.{B}
use Rattle.header_types.specs.SequenceParameterSets.{width_in_ctbs}
use Rattle.plan_types.specs.declared.picture_plan.PicturePlan.{PicturePlan}
use Rattle.flight_waits.specs.FactsOfFlights.{IsCommon}
use Rattle.flight_waits.specs.FactsOfFlights.{buffer_of}
use Rattle.spec_reconstruction.specs.Sound.{IsFormat}
use Rattle.unit_reach.specs.SpecFlights.{names_before}
use Rattle.line_words.specs.Places.{UnitAt}
use Rattle.flight_waits.specs.FactsOfFlights.{FlightFacts}
use Rattle.flight_waits.specs.FactsOfFlights.{flight_in}
use Rattle.flight_waits.specs.FactsOfFlights.{IsOfFlight}
use Rattle.flight_waits.specs.Frames.{frame_rows}
use Rattle.row_waits.specs.declared.picture_view.PictureView.{PictureView}

-- a worker knows a picture of the flight
pub record IsPictureOf (facts : FlightFacts) (picture : PictureView) : Type 0 where
  pub flight : IsOfFlight facts picture.layout.now
  pub plans : picture.plans.now ≡ (flight_in facts).pictures
  pub plan : slice_get (flight_in facts).pictures picture.place ≡ Some picture.plan.now
  pub names : picture.names.now ≡ names_before (flight_in facts) picture.place
  pub frame : picture.frame.now ≡ frame_rows (flight_in facts).pictures
  pub bases : buffer_of picture.bases.now ≡ buffer_of facts.bases.value
  pub common : IsCommon picture.plan.now.sps picture.plan.now.pps picture.format.now
  pub depths : IsFormat picture.format.now

-- a coding tree unit of the picture
pub record IsUnitOf (picture : PictureView) (at : UnitAt) : Type 0 where
  pub sizes : at.sizes ≡ picture.layout.now
  pub phase : at.line.phase ≡ B
  pub place : at.line.picture ≡ picture.place

-- the address of a coding tree unit in a picture of this plan
abbrev pub address_in : PicturePlan → UnitAt → ℕ
address_in p at = at.line.row * width_in_ctbs p.sps + at.unit
