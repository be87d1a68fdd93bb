-- The words of the row above a row of coding tree units, by the values of their picture.
use Rattle.std.specs.Prelude.{◌≡◌, ℕ, ◌+◌, ◌-◌, ◌*◌, ◌/◌, ◌<◌, min, List, length, slice_index}
use Rattle.hv_base.specs.declared.line.Phase.TheVariants.{B}
use Rattle.plan_types.specs.declared.picture_plan.PicturePlan.{PicturePlan}
use Rattle.spec_slice_data.specs.Segment.{PictureShape}
use Rattle.spec_picture_trees.specs.Places.{unit_places}
use Rattle.spec_picture_trees.specs.Shapes.{picture_shape}
use Rattle.sample_words.specs.declared.sizes.FlightSizes.{FlightSizes}
use Rattle.sample_words.specs.declared.unit_content.UnitContent.{UnitContent}
use Rattle.sample_words.specs.declared.unit_content.UnitContent.TheVariants.{Modes, Offsets}
use Rattle.sample_words.specs.Contents.{PictureValues, index_of}
use Rattle.sample_words.specs.Offsets.{first_word, second_word}
use Rattle.sample_words.specs.Sizes.{height_of, width_of}
use Rattle.sample_words.specs.Values.{modes_word}
use Rattle.sample_words.specs.Words.{unit_word}
use Rattle.flight_value_laws.specs.SpecFlights.{PlannedFlight}
use Rattle.flight_value_laws.specs.SpecFlights.{expected, flight_sizes}

-- how many places the picture has in a row of places of the units in this column
abbrev pub places_across : PictureShape → ℕ → ℕ
places_across picture x = min (unit_places picture) (picture.across - unit_places picture * x)

-- words are those of the modes of the lowest places of the unit above the one in this row and column, from the left one
-- on, as many as the picture has, and those of its sample adaptive offset
pub record AreAbove (picture : PictureShape) (values : PictureValues) (row x : ℕ) (modes offsets : List ℕ) : Type 0
  where
    pub count : length modes ≡ places_across picture x
    pub each : (i : ℕ) → i < length modes
        → slice_index modes i
        ≡ modes_word (values.modes (unit_places picture * x + i) (unit_places picture * row - 1))
        (values.motion (unit_places picture * x + i) (unit_places picture * row - 1))
    pub first : slice_index offsets 0 ≡ first_word (values.offsets x (row - 1))
    pub second : slice_index offsets 1 ≡ second_word (values.offsets x (row - 1))

-- the word that a flight expects of a content of the unit in a row and a column of the picture at a place
abbrev pub content_in : PlannedFlight → FlightSizes → ℕ → ℕ → ℕ → UnitContent → ℕ
content_in f s k row x content =
    expected f (unit_word B k row x (index_of s (width_of s x) (height_of s row) x content))

abbrev pub expected_content : PlannedFlight → ℕ → PicturePlan → ℕ → ℕ → UnitContent → ℕ
expected_content f k p row x content = content_in f (flight_sizes p.sps (length f.pictures)) k row x content

-- words are those that a flight expects of the modes of the lowest places of the unit above, from the left one on, as
-- many as it has, and of its sample adaptive offset
pub record AreExpectedAbove (f : PlannedFlight) (k : ℕ) (p : PicturePlan) (row x : ℕ) (modes offsets : List ℕ) : Type 0
  where
    pub count : length modes ≡ width_of (flight_sizes p.sps (length f.pictures)) x / 4
    pub each : (i : ℕ) → i < length modes
        → slice_index modes i
        ≡ expected_content f k p (row - 1) x (Modes i (unit_places (picture_shape p.sps p.pps) - 1))
    pub first : slice_index offsets 0 ≡ expected_content f k p (row - 1) x (Offsets 0)
    pub second : slice_index offsets 1 ≡ expected_content f k p (row - 1) x (Offsets 1)
