-- Which samples and changes stay in range.
use Rattle.std.specs.Prelude.{ℕ, ◌≤◌, List, slice_index_or, ℤ, pos, negsuc, ◌≤ℤ◌}
use Rattle.spec_deblocking.specs.declared.line.Line.{Line}

pub record IsDepth (depth : ℕ) : Type 0 where
  pub least : 8 ≤ depth
  pub greatest : depth ≤ 14

-- every sample of a line is at most so great
pub record AreSmall (greatest : ℕ) (line : Line) : Type 0 where
  pub p3 : line.p3 ≤ greatest
  pub p2 : line.p2 ≤ greatest
  pub p1 : line.p1 ≤ greatest
  pub p0 : line.p0 ≤ greatest
  pub q0 : line.q0 ≤ greatest
  pub q1 : line.q1 ≤ greatest
  pub q2 : line.q2 ≤ greatest
  pub q3 : line.q3 ≤ greatest

-- every sample of a list is at most so great
abbrev pub IsBounded : ℕ → List ℕ → Type 0
IsBounded greatest samples = (k : ℕ) → slice_index_or samples k 0 ≤ greatest

-- a change that every number of 32 bits has room for beside a sample
pub record IsModest (change : ℤ) : Type 0 where
  pub least : negsuc 1048574 ≤ℤ change
  pub greatest : change ≤ℤ pos 1048575

pub record IsFew (number : ℤ) : Type 0 where
  pub least : negsuc 2047 ≤ℤ number
  pub greatest : number ≤ℤ pos 2047
