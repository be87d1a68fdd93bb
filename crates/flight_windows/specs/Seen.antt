-- Rows of coding tree blocks of the pictures of a flight of which the final samples are seen.
use Rattle.std.specs.Prelude.{ℕ, ◌≡◌, ◌+◌, ◌*◌, ◌≤◌, ◌&&◌, nat_lt, Bool, true, false, List, slice_index_or}
use Rattle.hv_base.specs.declared.line.Phase.TheVariants.{S}
use Rattle.board_core.specs.Places.{line_of}
use Rattle.sample_words.specs.declared.sizes.FlightSizes.{FlightSizes}
use Rattle.sample_words.specs.Words.{IsLine, line_number}
use Rattle.progress_words.specs.declared.view.View.{View}
use Rattle.progress_words.specs.Views.{seen_of}

-- how many pictures there are, how many rows each has, and of each row whether it is seen, picture after picture
pub record SeenFlags : Type 0 where
  pub pictures : ℕ
  pub rows : ℕ
  pub flags : List Bool

-- so many pictures with so many rows each
abbrev pub HasRows : SeenFlags → ℕ → ℕ → Type 0
HasRows seen pictures rows = (seen.pictures ≡ pictures) × (seen.rows ≡ rows)

-- whether there is such a row
abbrev pub has_row : SeenFlags → ℕ → ℕ → Bool
has_row seen j row = nat_lt j seen.pictures && nat_lt row seen.rows

-- whether a row of a picture is seen
unfoldable pub is_seen : SeenFlags → ℕ → ℕ → Bool
is_seen seen j row = has_row seen j row && slice_index_or seen.flags (j * seen.rows + row) false

-- rows that are seen are lines of a flight with these sizes, and this pass has seen them counted
abbrev pub AreFlagsSeen : {F : Type 0} → FlightSizes → View F → SeenFlags → Type 0
AreFlagsSeen s v seen =
    (j row : ℕ) → is_seen seen j row ≡ true
    → IsLine s (line_of S j row) × (1 ≤ seen_of v (line_number s (line_of S j row)))
