-- Coding tree units of a flight, and the words of their places of 4x4 luma samples.
use Rattle.std.specs.Prelude.{ℕ, ◌≡◌, ◌+◌, ◌*◌, ◌/◌, ◌<◌, ◌≤◌, true, Some, slice_get, slice_index}
use Rattle.hv_base.specs.declared.line.Phase.TheVariants.{B}
use Rattle.header_types.specs.SequenceParameterSets.{width_in_ctbs}
use Rattle.plan_types.specs.declared.picture_plan.PicturePlan.{PicturePlan}
use Rattle.sample_words.specs.declared.unit_content.UnitContent.{UnitContent}
use Rattle.sample_words.specs.declared.unit_content.UnitContent.TheVariants.{Modes, Vectors}
use Rattle.sample_words.specs.Sizes.{height_of, places, sample_words, width_of}
use Rattle.row_above_laws.specs.Above.{content_in}
use Rattle.spec_flights.specs.Pictures.{PlannedFlight}
use Rattle.spec_flights.specs.Rows.{is_sound}
use Rattle.line_words.specs.Places.{IsUnit, UnitAt}
use Rattle.sample_lines.specs.FactsOfFlights.{FlightFacts}
use Rattle.sample_lines.specs.FactsOfFlights.{flight_in}
use Rattle.sample_lines.specs.FactsOfFlights.{IsOfFlight}
use Rattle.taken_pictures.specs.declared.place_words.PlaceWords.{PlaceWords}
use Rattle.taken_pictures.specs.declared.place_rows.PlaceRow.{PlaceRow}
use Rattle.taken_pictures.specs.Rows.{side_places}

-- a sound coding tree unit of a flight, whose picture has this plan
pub record IsTreeUnit (facts : FlightFacts) (u : UnitAt) (p : PicturePlan) : Type 0 where
  pub flight : IsOfFlight facts u.sizes
  pub phase : u.line.phase ≡ B
  pub picture : slice_get (flight_in facts).pictures u.line.picture ≡ Some p
  pub unit : IsUnit u
  pub sound : is_sound (flight_in facts) u.line u.unit ≡ true

-- its address in its picture
abbrev pub address_at : PicturePlan → UnitAt → ℕ
address_at p u = u.line.row * width_in_ctbs p.sps + u.unit

-- the column and the row in the picture of its first place
abbrev pub column_at : UnitAt → ℕ
column_at u = side_places u.sizes * u.unit

abbrev pub row_at : UnitAt → ℕ
row_at u = side_places u.sizes * u.line.row

-- the word that a flight expects of a content of a coding tree unit
abbrev pub word_in : PlannedFlight → UnitAt → UnitContent → ℕ
word_in f u content = content_in f u.sizes u.line.picture u.line.row u.unit content

-- how many places the picture has of a unit across and down, and which of its words has the vectors of the first one
-- and which its modes
pub record ArePlaceWords (u : UnitAt) (words : PlaceWords) : Type 0 where
  pub columns : words.columns ≡ width_of u.sizes u.unit / 4
  pub rows : words.rows ≡ height_of u.sizes u.line.row / 4
  pub vectors : words.vectors ≡ sample_words u.sizes (width_of u.sizes u.unit) (height_of u.sizes u.line.row)
  pub modes : words.modes ≡ words.vectors + places (width_of u.sizes u.unit) (height_of u.sizes u.line.row)
  pub few_columns : words.columns ≤ 16
  pub few_rows : words.rows ≤ 16
  pub few : words.modes ≤ 786944

-- words are those that a flight expects of a row of places of a unit, and the row stands where the picture has it
pub record IsPlaceRow (f : PlannedFlight) (u : UnitAt) (y : ℕ) (row : PlaceRow) : Type 0 where
  pub column : row.x ≡ column_at u
  pub line : row.y ≡ row_at u + y
  pub count : row.count ≡ width_of u.sizes u.unit / 4
  pub vectors : (i : ℕ) → i < row.count → slice_index row.vectors i ≡ word_in f u (Vectors i y)
  pub modes : (i : ℕ) → i < row.count → slice_index row.modes i ≡ word_in f u (Modes i y)
