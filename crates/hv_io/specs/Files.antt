-- A reader or a writer of std with a count of its faults.
use Rattle.std.specs.Prelude.{ℕ}

-- a reader or a writer, and how many of the calls on it failed
pub record Counting (X : Type 0) : Type 0 where
  pub inner : X
  pub faults : ℕ
