-- Parts of a window.
use Rattle.std.specs.Prelude.{ℕ, ◌+◌, ◌*◌, ◌≤◌, Bool, if◌then◌else◌}
use Rattle.spec_picture_build.specs.Output.{Window}

-- its first rows
abbrev pub upper : Window → ℕ → Window
upper w rows = record { left = w.left; top = w.top; width = w.width; height = rows; two_bytes = w.two_bytes }

-- rows of it from one on
abbrev pub below : Window → ℕ → ℕ → Window
below w first rows =
    record { left = w.left; top = w.top + first; width = w.width; height = rows; two_bytes = w.two_bytes }

-- how many bytes so many samples have
unfoldable pub size_of : Bool → ℕ → ℕ
size_of two_bytes n = if two_bytes then 2 * n else n

-- how many bytes a row of it has
abbrev pub row_size : Window → ℕ
row_size w = size_of w.two_bytes w.width

-- a window of a plane of these sides, which are up to 8192
pub record LiesIn (w : Window) (width height : ℕ) : Type 0 where
  pub columns : w.left + w.width ≤ width
  pub rows : w.top + w.height ≤ height
  pub few_columns : w.left + w.width ≤ 8192
  pub few_rows : w.top + w.height ≤ 8192
