-- Memory in which the offsets of components are added.
use Rattle.std.specs.Prelude.{ℕ, ◌≤◌}

-- room for lines of a plane of these sides, whatever its height
abbrev pub HasRoom : ℕ → ℕ → ℕ → Type 0
HasRoom room width height = width ≤ room
