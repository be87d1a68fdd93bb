-- Lines of samples of pictures of a flight in their last phase.
use Rattle.std.specs.Prelude.{ℕ, ◌≡◌, ◌+◌, ◌*◌, ◌/◌, ◌^◌, ◌<◌, ◌≤◌, pos, ◌+ℤ◌, ◌≤ℤ◌, true, false, MatchOption}
use Rattle.hv_base.specs.declared.line.Phase.TheVariants.{S}
use Rattle.spec_inter_prediction.specs.Taps.{clamped}
use Rattle.sample_lines.specs.LocalityLaws.{luma_line}
use Rattle.board_core.specs.Places.{line_of}
use Rattle.sample_words.specs.declared.sizes.FlightSizes.{FlightSizes}
use Rattle.sample_words.specs.Contents.{component_side}
use Rattle.sample_words.specs.Sizes.{ctb_size, height_of, samples_a_word}
use Rattle.line_words.specs.Places.{UnitAt}
use Rattle.flight_windows.specs.declared.final_rows.FinalRow.{FinalRow}
use Rattle.flight_windows.specs.declared.row_places.RowPlace.{RowPlace}
use Rattle.flight_windows.specs.declared.spans.Span.{Span}
use Rattle.flight_windows.specs.Seen.{SeenFlags, is_seen}

-- the sides of a picture's component
abbrev pub width_in : FlightSizes → ℕ → ℕ
width_in s c = component_side c s.width

abbrev pub height_in : FlightSizes → ℕ → ℕ
height_in s c = component_side c s.height

-- a row of a picture in its last phase, which is one unit
abbrev pub final_unit : FlightSizes → ℕ → ℕ → UnitAt
final_unit s j row = record { sizes = s; line = line_of S j row; unit = 0 }

-- where a row of a picture of a flight stands on the board, if it is seen
abbrev pub IsFinalRow : FlightSizes → SeenFlags → FinalRow → Type 0
IsFinalRow s seen row =
    MatchOption row.at (is_seen seen row.picture row.row ≡ false)
    (λ at. (is_seen seen row.picture row.row ≡ true) × (at ≡ final_unit s row.picture row.row))

-- the row of coding tree blocks that has a line of a component, which is held inside the picture, and the line there
pub record IsRowPlace (s : FlightSizes) (c : ℕ) (place : RowPlace) : Type 0 where
  pub row : place.row ≡ luma_line c (clamped place.y (height_in s c)) / 2 ^ s.ctb_log2
  pub line : component_side c (place.row * ctb_size s) + place.line ≡ clamped place.y (height_in s c)
  pub inside : place.line < component_side c (height_of s place.row)

-- whole words of a line of a component, which have so many samples from a column on: where that lies outside the
-- picture the nearest ones inside
pub record IsSpan (s : FlightSizes) (c count : ℕ) (span : Span) : Type 0 where
  pub some : 0 < span.count
  pub few : span.count ≤ 78
  pub inside : samples_a_word s * span.word + span.count ≤ width_in s c
  pub place : span.left ≤ℤ pos 1073741824
  pub held : (k : ℕ) → k < count
      → samples_a_word s * span.word + clamped (span.left +ℤ pos k) span.count
      ≡ clamped (span.column +ℤ pos k) (width_in s c)
