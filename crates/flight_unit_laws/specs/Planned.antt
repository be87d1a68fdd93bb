-- A flight as it is planned.
use Rattle.std.specs.Prelude.{◌≡◌, ◌≤◌, ℕ, All, length, Some, slice_get}
use Rattle.header_types.specs.SequenceParameterSets.{IsSps}
use Rattle.plan_types.specs.declared.picture_plan.PicturePlan.{PicturePlan}
use Rattle.known_picture_laws.specs.SpecFlights.{BufferPicture}
use Rattle.known_picture_laws.specs.LocalityLaws.{IsHalved}
use Rattle.known_picture_laws.specs.SpecFlights.{PlannedFlight}
use Rattle.flight_unit_laws.specs.Stops.{HaveSegments}

-- a picture of the buffer has sides of which chroma has half
abbrev pub HasHalves : BufferPicture → Type 0
HasHalves b = IsHalved b.picture.format

-- up to 65,536 pictures, whose sequence parameter sets are in range and of one format and one set of block sizes, and
-- each of which has a slice segment; the pictures of the buffer have sides of which chroma has half
pub record IsPlanned (f : PlannedFlight) : Type 0 where
  pub few : length f.pictures ≤ 65536
  pub some : 1 ≤ length f.pictures
  pub sps : (k : ℕ) (p : PicturePlan) → slice_get f.pictures k ≡ Some p → IsSps p.sps
  pub formats : (j k : ℕ) (p q : PicturePlan) → slice_get f.pictures j ≡ Some p → slice_get f.pictures k ≡ Some q
      → p.sps.format ≡ q.sps.format
  pub blocks : (j k : ℕ) (p q : PicturePlan) → slice_get f.pictures j ≡ Some p → slice_get f.pictures k ≡ Some q
      → p.sps.blocks ≡ q.sps.blocks
  pub segments : HaveSegments f
  pub halves : All HasHalves f.buffer
