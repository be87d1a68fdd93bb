-- Coding tree units of a flight, and the words of their places.
use Rattle.std.specs.Prelude.{◌≡◌, ℕ, ◌+◌, ◌*◌, ◌/◌, ◌≤◌, true, Some, slice_get, take}
use Rattle.hv_base.specs.declared.line.Phase.TheVariants.{B}
use Rattle.header_types.specs.SequenceParameterSets.{width_in_ctbs}
use Rattle.plan_types.specs.declared.picture_plan.PicturePlan.{PicturePlan}
use Rattle.spec_picture_trees.specs.Places.{unit_places}
use Rattle.spec_picture_trees.specs.Shapes.{picture_shape}
use Rattle.sample_words.specs.declared.unit_content.UnitContent.{UnitContent}
use Rattle.sample_words.specs.Sizes.{height_of, places, sample_words, width_of}
use Rattle.row_above_laws.specs.Above.{AreExpectedAbove, content_in}
use Rattle.spec_flights.specs.Pictures.{PlannedFlight}
use Rattle.spec_flights.specs.Rows.{is_sound}
use Rattle.line_words.specs.Places.{IsUnit, UnitAt}
use Rattle.sample_lines.specs.FactsOfFlights.{FlightFacts}
use Rattle.sample_lines.specs.FactsOfFlights.{flight_in}
use Rattle.sample_lines.specs.FactsOfFlights.{IsOfFlight}
use Rattle.border_words.specs.declared.place_words.PlaceWords.{PlaceWords}
use Rattle.border_words.specs.declared.unit_above.UnitAbove.{UnitAbove}

-- a sound coding tree unit of a flight, whose picture has this plan
pub record IsTreeUnit (facts : FlightFacts) (u : UnitAt) (p : PicturePlan) : Type 0 where
  pub flight : IsOfFlight facts u.sizes
  pub phase : u.line.phase ≡ B
  pub picture : slice_get (flight_in facts).pictures u.line.picture ≡ Some p
  pub unit : IsUnit u
  pub sound : is_sound (flight_in facts) u.line u.unit ≡ true

-- its address in its picture
abbrev pub address_at : PicturePlan → UnitAt → ℕ
address_at p u = u.line.row * width_in_ctbs p.sps + u.unit

-- the column and the row in the picture of one of its places of 4x4 luma samples
abbrev pub column_at : PicturePlan → UnitAt → ℕ → ℕ
column_at p u i = unit_places (picture_shape p.sps p.pps) * u.unit + i

abbrev pub row_at : PicturePlan → UnitAt → ℕ → ℕ
row_at p u j = unit_places (picture_shape p.sps p.pps) * u.line.row + j

-- the word that a flight expects of a content of a coding tree unit
abbrev pub word_in : PlannedFlight → UnitAt → UnitContent → ℕ
word_in f u content = content_in f u.sizes u.line.picture u.line.row u.unit content

-- how many places a unit has across and down, and where the words of its places and of its sample adaptive offset stand
-- among its words
pub record ArePlaceWords (u : UnitAt) (words : PlaceWords) : Type 0 where
  pub columns : words.columns ≡ width_of u.sizes u.unit / 4
  pub rows : words.rows ≡ height_of u.sizes u.line.row / 4
  pub vectors : words.vectors ≡ sample_words u.sizes (width_of u.sizes u.unit) (height_of u.sizes u.line.row)
  pub modes : words.modes ≡ words.vectors + places (width_of u.sizes u.unit) (height_of u.sizes u.line.row)
  pub offsets : words.offsets
      ≡ words.vectors + 2 * places (width_of u.sizes u.unit) (height_of u.sizes u.line.row)
  pub few_columns : words.columns ≤ 16
  pub few_rows : words.rows ≤ 16
  pub few : words.offsets ≤ 786944

-- words of a unit that has another one below it, in the picture at a place of a flight, are those that the flight
-- expects of the modes of the unit's lowest places and of its sample adaptive offset
pub record IsAboveOf (f : PlannedFlight) (k : ℕ) (p : PicturePlan) (row x : ℕ) (above : UnitAbove) : Type 0 where
  pub few : above.count ≤ 16
  pub words : AreExpectedAbove f k p (row + 1) x (take above.count above.modes) above.offsets
