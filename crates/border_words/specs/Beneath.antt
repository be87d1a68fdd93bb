-- The pictures that a picture of a flight refers to, and the motion of the collocated one beneath a coding tree unit.
use Rattle.std.specs.Prelude.{◌≡◌, ℕ, ◌*◌, ◌<◌, List, Option, Some, None, slice_get}
use Rattle.plan_types.specs.declared.picture_plan.PicturePlan.{PicturePlan}
use Rattle.picture_buffer.specs.declared.place_motion.PlaceMotion.{PlaceMotion}
use Rattle.picture_buffer.specs.Motion.{motions_of}
use Rattle.picture_buffer.specs.Pictures.{HeldPicture}
use Rattle.sample_lines.specs.FactsOfFlights.{buffer_of}
use Rattle.spec_picture_motion.specs.Field.{Motions, no_motions}
use Rattle.spec_picture_trees.specs.Shapes.{picture_shape}
use Rattle.spec_flights.specs.Pictures.{PlannedFlight, folded_at}
use Rattle.flight_plan.specs.declared.row_range.Reference.{Reference}
use Rattle.flight_plan.specs.declared.row_range.Reference.TheVariants.{Base, Flight}
use Rattle.spec_flights.specs.References.{names_before}
use Rattle.row_borders.specs.Borders.{Bordering, block_beneath}
use Rattle.sample_lines.specs.FactsOfFlights.{FlightFacts}
use Rattle.sample_lines.specs.FactsOfFlights.{flight_in}
use Rattle.border_words.specs.Units.{ArePlaceWords, IsTreeUnit, address_at, column_at, row_at}
use Rattle.border_words.specs.declared.unit_blocks.UnitBlocks.{UnitBlocks}
use Rattle.border_words.specs.declared.reference_pictures.ReferencePictures.{ReferencePictures}

-- the plans of a flight, its bases, and the names of the pictures of the buffer before one of its pictures
pub record AreReferences (facts : FlightFacts) (r : ReferencePictures) : Type 0 where
  pub plans : r.plans.now ≡ (flight_in facts).pictures
  pub names : r.names.now ≡ names_before (flight_in facts) r.picture
  pub bases : buffer_of r.bases.now ≡ buffer_of facts.bases.value

-- the motion of a base, and of a picture of a flight as its known units make it; none where there is no such picture
abbrev pub base_motions : Option HeldPicture → Motions
base_motions None = no_motions
base_motions (Some p) = motions_of p.motion

abbrev pub flight_motions : PlannedFlight → ℕ → Option PicturePlan → Motions
flight_motions f k None = no_motions
flight_motions f k (Some p) = (folded_at f k).motions

-- that of a picture by its name in a flight with these bases
abbrev pub named_motions : PlannedFlight → List HeldPicture → Reference → Motions
named_motions f bases (Base place) = base_motions (slice_get bases place)
named_motions f bases (Flight k) = flight_motions f k (slice_get f.pictures k)

-- in a column of blocks of 4x4 places beneath a unit, of so many places a side, stands this motion, by rows of blocks
abbrev pub HasColumn : Bordering → ℕ → ℕ → (ℕ → Option PlaceMotion) → Type 0
HasColumn border n column motion = (row : ℕ) → 4 * row < n → block_beneath border column row ≡ motion row

-- a sound coding tree unit of a flight, its place in its picture, and its words
pub record IsUnitBlocks (facts : FlightFacts) (b : UnitBlocks) : Type 0 where
  pub tree : IsTreeUnit facts b.at.now b.plan.now
  pub layout : b.unit.layout ≡ picture_shape b.plan.now.sps b.plan.now.pps
  pub address : b.unit.address ≡ address_at b.plan.now b.at.now
  pub words : ArePlaceWords b.at.now b.words

-- the motion that its picture keeps of one of its places
abbrev pub motion_in_unit : FlightFacts → UnitBlocks → ℕ → ℕ → Option PlaceMotion
motion_in_unit facts b i j =
    (folded_at (flight_in facts) b.at.now.line.picture).motions (column_at b.plan.now b.at.now i)
    (row_at b.plan.now b.at.now j)
