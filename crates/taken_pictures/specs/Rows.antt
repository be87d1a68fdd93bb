-- Rows of coding tree units in a picture: by lines of samples, and by rows of places of 4x4 luma samples.
use Rattle.std.specs.Prelude.{ℕ, ◌+◌, ◌*◌, ◌/◌, ◌&&◌, Bool, nat_le, nat_lt}
use Rattle.sample_words.specs.declared.sizes.FlightSizes.{FlightSizes}
use Rattle.sample_words.specs.Contents.{component_side}
use Rattle.sample_words.specs.Sizes.{ctb_size}

-- the first line of a component of a row, and whether a line of the picture is one of the row
abbrev pub first_line : FlightSizes → ℕ → ℕ → ℕ
first_line s c row = component_side c (row * ctb_size s)

abbrev pub is_line_of_row : FlightSizes → ℕ → ℕ → ℕ → Bool
is_line_of_row s c row y = nat_le (first_line s c row) y && nat_lt y (first_line s c (row + 1))

-- how many places a coding tree unit has across and down, where the picture has all of them
abbrev pub side_places : FlightSizes → ℕ
side_places s = ctb_size s / 4

-- whether a row of places is one of a row of coding tree units; the same of columns
abbrev pub is_place_of_row : FlightSizes → ℕ → ℕ → Bool
is_place_of_row s k place = nat_le (side_places s * k) place && nat_lt place (side_places s * k + side_places s)
