-- Lines of samples of the units of a flight, and the words that have them.
use Rattle.std.specs.Prelude.{ℕ, ◌+◌, ◌*◌}
use Rattle.sample_words.specs.declared.unit_content.UnitContent.TheVariants.{Samples}
use Rattle.sample_words.specs.Contents.{component_side, first_column, index_of, unit_width}
use Rattle.sample_words.specs.Sizes.{ctb_size, height_of}
use Rattle.flight_facts.specs.SpecFlights.{PlannedFlight}
use Rattle.line_words.specs.Places.{UnitAt}
use Rattle.flight_facts.specs.Flights.{samples_at}

-- how many luma samples a unit has across and down
abbrev pub luma_width : UnitAt → ℕ
luma_width at = unit_width at.sizes at.line.phase at.unit

abbrev pub luma_height : UnitAt → ℕ
luma_height at = height_of at.sizes at.line.row

-- how many samples of a component it has across and down
abbrev pub width_at : UnitAt → ℕ → ℕ
width_at at c = component_side c (luma_width at)

abbrev pub height_at : UnitAt → ℕ → ℕ
height_at at c = component_side c (luma_height at)

-- the column and the line of the first of them in the picture
abbrev pub left_at : UnitAt → ℕ → ℕ
left_at at c = component_side c (first_column at.sizes at.line.phase at.unit)

abbrev pub top_at : UnitAt → ℕ → ℕ
top_at at c = component_side c (at.line.row * ctb_size at.sizes)

-- the sample of a component in a column and a line of a unit, by the samples of its picture in the phase of its line
unfoldable pub sample_of : PlannedFlight → UnitAt → ℕ → ℕ → ℕ → ℕ
sample_of f at c x y = samples_at f at.line.picture at.line.phase c (left_at at c + x) (top_at at c + y)

-- which of the unit's words has samples of a line of a component: of the line's words the one with this number
unfoldable pub sample_index : UnitAt → ℕ → ℕ → ℕ → ℕ
sample_index at c line word = index_of at.sizes (luma_width at) (luma_height at) at.unit (Samples c line word)
