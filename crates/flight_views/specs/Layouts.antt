-- Flights of plans behind bases that can be worked off on a board.
use Rattle.std.specs.Prelude.{◌≡◌, ◌≤◌, List, All, length}
use Rattle.plan_types.specs.declared.picture_plan.PicturePlan.{PicturePlan}
use Rattle.picture_buffer.specs.Pictures.{HeldPicture}
use Rattle.row_waits.specs.PictureBuild.{buffer_of}
use Rattle.row_waits.specs.LocalityLaws.{IsHalved}
use Rattle.sample_words.specs.declared.sizes.FlightSizes.{FlightSizes}
use Rattle.row_waits.specs.FlightUnitLaws.{IsPlanned}
use Rattle.row_waits.specs.FlightFacts.{FlightFacts}
use Rattle.row_waits.specs.FlightFacts.{flight_of, sizes_in}
use Rattle.row_waits.specs.FlightFacts.{flight_in}

-- a value for contracts stands for the flight of these plans behind these bases
abbrev pub StandsFor : FlightFacts → List PicturePlan → List HeldPicture → Type 0
StandsFor facts plans bases = flight_in facts ≡ flight_of plans (buffer_of bases)

-- a picture has the format and the block sizes of another, and a slice segment
pub record HasSetsOf (first p : PicturePlan) : Type 0 where
  pub format : p.sps.format ≡ first.sps.format
  pub blocks : p.sps.blocks ≡ first.sps.blocks
  pub some : 1 ≤ length p.segments

-- pictures have sides of which chroma has half
abbrev pub AreHalved : List HeldPicture → Type 0
AreHalved bases = All (λ picture. IsHalved picture.format) bases

-- the flight is as it is planned, its words are laid out for its pictures, and there aren't more than so many bases
pub record IsLaidFor (plans : List PicturePlan) (bases : List HeldPicture) (s : FlightSizes) : Type 0 where
  pub planned : IsPlanned (flight_of plans (buffer_of bases))
  pub sizes : s ≡ sizes_in plans
  pub few_bases : length bases ≤ 65536
