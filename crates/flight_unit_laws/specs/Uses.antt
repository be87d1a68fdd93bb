-- What a unit of a flight is made from, where that agrees with the pictures of the flight at the units that making it
-- uses.
use Rattle.std.specs.Prelude.{◌≡◌, ℕ, ◌/◌, ◌^◌, ◌<◌, true, List, length, Some, slice_get}
use Rattle.hv_base.specs.declared.line.Line.{Line}
use Rattle.hv_base.specs.declared.line.Phase.{Phase}
use Rattle.hv_base.specs.declared.line.Phase.TheVariants.{B, S}
use Rattle.header_types.specs.SequenceParameterSets.{ctb_log2, height_in_ctbs, width_in_ctbs}
use Rattle.plan_types.specs.declared.picture_plan.PicturePlan.{PicturePlan}
use Rattle.known_picture_laws.specs.SpecPictureTrees.{has_place, unit_places}
use Rattle.known_picture_laws.specs.SpecPictureTrees.{picture_shape}
use Rattle.spec_sample_adaptive_offset.specs.declared.unit.OffsetUnit.{OffsetUnit}
use Rattle.known_picture_laws.specs.SpecPictureBuild.{Samples, has_sample, unit_side}
use Rattle.known_picture_laws.specs.SpecPictureBuild.{DecodedPicture}
use Rattle.known_picture_laws.specs.SpecDecodedPictures.{DecodedUnits}
use Rattle.known_picture_laws.specs.LocalityLaws.{luma_line}
use Rattle.flight_plan.specs.declared.row_range.Reference.{Reference}
use Rattle.flight_plan.specs.declared.row_range.Reference.TheVariants.{Base, Flight}
use Rattle.board_core.specs.Places.{line_of}
use Rattle.board_core.specs.Uses.{UnitUses}
use Rattle.known_picture_laws.specs.SpecFlights.{PlannedFlight, pictures_before}
use Rattle.known_picture_laws.specs.SpecFlights.{names_before}
use Rattle.known_picture_laws.specs.SpecFlights.{flight_rows}

-- making the unit x of a line uses the coding tree unit in a column and a row of a picture
abbrev pub UsesTree : PlannedFlight → Line → ℕ → ℕ → ℕ → ℕ → Type 0
UsesTree f l x picture column row = UnitUses (flight_rows f) l x (line_of B picture row) column

-- two pictures are the same at each sample and each place, but for those of coding tree units of the picture at a place
-- of the flight that aren't used
pub record AgreeWhereUsed (f : PlannedFlight) (l : Line) (x k : ℕ) (p : PicturePlan) (a b : DecodedUnits) : Type 0 where
  pub samples : (c y z : ℕ)
      → (has_sample (picture_shape p.sps p.pps) c y z ≡ true
      → UsesTree f l x k (y / unit_side (picture_shape p.sps p.pps) c) (z / unit_side (picture_shape p.sps p.pps) c))
      → a.samples c y z ≡ b.samples c y z
  pub motions : (y z : ℕ)
      → (has_place (picture_shape p.sps p.pps) y z ≡ true
      → UsesTree f l x k (y / unit_places (picture_shape p.sps p.pps)) (z / unit_places (picture_shape p.sps p.pps)))
      → a.motions y z ≡ b.motions y z
  pub places : (y z : ℕ)
      → (has_place (picture_shape p.sps p.pps) y z ≡ true
      → UsesTree f l x k (y / unit_places (picture_shape p.sps p.pps)) (z / unit_places (picture_shape p.sps p.pps)))
      → a.filters.places y z ≡ b.filters.places y z
  pub coded : (y z : ℕ)
      → (has_place (picture_shape p.sps p.pps) y z ≡ true
      → UsesTree f l x k (y / unit_places (picture_shape p.sps p.pps)) (z / unit_places (picture_shape p.sps p.pps)))
      → a.filters.coded y z ≡ b.filters.coded y z
  pub units : (c column row : ℕ)
      → (column < width_in_ctbs p.sps → row < height_in_ctbs p.sps → UsesTree f l x k column row)
      → a.filters.units c column row ≡ b.filters.units c column row

-- samples of a picture in a phase of the loop filters are the same, but for those of rows of it that aren't used
abbrev pub SamplesAgreeWhereUsed : PlannedFlight → Line → Phase → ℕ → PicturePlan → Samples → Samples → Type 0
SamplesAgreeWhereUsed f l phase k p a b =
    (c y z : ℕ)
    → (has_sample (picture_shape p.sps p.pps) c y z ≡ true
    → UnitUses (flight_rows f) l 0 (line_of phase k (z / unit_side (picture_shape p.sps p.pps) c)) 0)
    → a c y z ≡ b c y z

-- two coding tree units are of one slice, as far as sample adaptive offset can tell (8.7.3.2)
pub record AreOfSameSlice (a b : OffsetUnit) : Type 0 where
  pub slice : a.slice ≡ b.slice
  pub across : a.across ≡ b.across

-- two pictures that a name of the buffer before picture p stands for agree where they are used: one of the flight,
-- whose pictures have the sizes of p, in its final rows and in the motion of its coding tree units
pub record PicturesAgree (f : PlannedFlight) (l : Line) (x k : ℕ) (p : PicturePlan) (a b : DecodedPicture)
    : Type 0 where
  pub format : a.format ≡ b.format
  pub samples : (c y z : ℕ)
      → UnitUses (flight_rows f) l x (line_of S k (luma_line c z / 2 ^ ctb_log2 p.sps.blocks)) 0
      → a.samples c y z ≡ b.samples c y z
  pub motions : (y z : ℕ)
      → (has_place (picture_shape p.sps p.pps) y z ≡ true
      → UsesTree f l x k (y / unit_places (picture_shape p.sps p.pps)) (z / unit_places (picture_shape p.sps p.pps)))
      → a.motions y z ≡ b.motions y z

-- one from before the flight as a whole
abbrev pub NamedAgree : PlannedFlight → Line → ℕ → PicturePlan → Reference → DecodedPicture → DecodedPicture → Type 0
NamedAgree f l x p (Base place) a b = a ≡ b
NamedAgree f l x p (Flight k) a b = PicturesAgree f l x k p a b

-- another buffer agrees so with the one before picture p at a place of the flight, place by place
pub record BuffersAgree (f : PlannedFlight) (l : Line) (x k : ℕ) (p : PicturePlan) (others : List DecodedPicture)
    : Type 0 where
  pub long : length others ≡ length (pictures_before f k)
  pub each : (i : ℕ) (r : Reference) (a b : DecodedPicture) → slice_get (names_before f k) i ≡ Some r
      → slice_get (pictures_before f k) i ≡ Some a → slice_get others i ≡ Some b → NamedAgree f l x p r a b
