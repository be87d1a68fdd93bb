-- Coding tree units of a picture of a flight, whose words are on a board, and where their places stand in the picture.
use Rattle.std.specs.Prelude.{◌≡◌, ◌≤◌, ℕ, ◌+◌, ◌*◌, ◌/◌, ◌==◌, ◌&&◌, Bool, true, Some, slice_get}
use Rattle.hv_base.specs.declared.line.Line.{Line}
use Rattle.hv_base.specs.declared.line.Phase.TheVariants.{B}
use Rattle.plan_types.specs.declared.picture_plan.PicturePlan.{PicturePlan}
use Rattle.spec_deblocking.specs.declared.place.Place.{Place}
use Rattle.spec_picture_filters.specs.Data.{FilterData}
use Rattle.spec_picture_filters.specs.Filtered.{filter_format}
use Rattle.board_core.specs.Places.{line_of}
use Rattle.sample_words.specs.declared.sizes.FlightSizes.{FlightSizes}
use Rattle.sample_words.specs.Sizes.{ctb_size, height_of, width_of}
use Rattle.flight_facts.specs.SpecFlights.{folded_at}
use Rattle.flight_facts.specs.SpecFlights.{is_sound}
use Rattle.row_filters.specs.Around.{Around}
use Rattle.line_words.specs.Places.{IsUnit, UnitAt}
use Rattle.flight_facts.specs.declared.flight_facts.FlightFacts.{FlightFacts}
use Rattle.flight_facts.specs.Facts.{flight_in}
use Rattle.flight_facts.specs.Flights.{IsOfFlight}
use Rattle.filter_words.specs.Regions.{is_inside}

-- the coding tree unit in a column of the row that a line is of, whichever phase it has
abbrev pub unit_at : FlightSizes → Line → ℕ → UnitAt
unit_at s l column = record { sizes = s; line = line_of B l.picture l.row; unit = column }

-- a coding tree unit of a picture of a flight, whose words are laid out by its sizes; it is sound
pub record IsSoundUnit (facts : FlightFacts) (p : PicturePlan) (u : UnitAt) : Type 0 where
  pub flight : IsOfFlight facts u.sizes
  pub picture : slice_get (flight_in facts).pictures u.line.picture ≡ Some p
  pub phase : u.line.phase ≡ B
  pub unit : IsUnit u
  pub sound : is_sound (flight_in facts) u.line u.unit ≡ true

-- three rows of a picture have room for what is known of one of its rows
pub record HasRoom (around : Around) (p : PicturePlan) (row : ℕ) : Type 0 where
  pub format : around.format ≡ filter_format p
  pub first : around.above ≤ row
  pub last : row ≤ around.above + 2

-- a coding tree unit's side in places, and how many of its places the picture has across and down
abbrev pub unit_side : FlightSizes → ℕ
unit_side s = ctb_size s / 4

abbrev pub across_of : UnitAt → ℕ
across_of u = width_of u.sizes u.unit / 4

abbrev pub down_of : UnitAt → ℕ
down_of u = height_of u.sizes u.line.row / 4

-- the column and the row of its first place in the picture
abbrev pub column_of : UnitAt → ℕ
column_of u = unit_side u.sizes * u.unit

abbrev pub row_of : UnitAt → ℕ
row_of u = unit_side u.sizes * u.line.row

-- whether a place of the picture is one of the unit's, in its rows of places from one to before another
abbrev pub is_in_unit : UnitAt → ℕ → ℕ → ℕ → ℕ → Bool
is_in_unit u first end = is_inside (column_of u) (column_of u + across_of u) (row_of u + first) (row_of u + end)

-- whether a unit is this one
abbrev pub is_unit : UnitAt → ℕ → ℕ → Bool
is_unit u column row = column == u.unit && row == u.line.row

-- what the loop filters need of the picture that a line is of
abbrev pub filters_at : FlightFacts → Line → FilterData
filters_at facts l = (folded_at (flight_in facts) l.picture).filters

abbrev pub places_at : FlightFacts → Line → ℕ → ℕ → Place
places_at facts l = (filters_at facts l).places
