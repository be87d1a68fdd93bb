-- Samples in memory, by their places across and along edges: columns and lines for vertical edges, lines and columns
-- for horizontal ones.
use Rattle.std.specs.Prelude.{ℕ, ◌+◌, ◌-◌, ◌*◌, ◌≤◌, Bool, true, false, ◌&&◌, nat_le, nat_lt, List, slice_index_or}
use Rattle.std.specs.Prelude.{if◌then◌else◌}
use Rattle.deblock.specs.declared.window.Window.{Window}

-- lines of so many samples, one after the other
abbrev pub at : ℕ → List ℕ → ℕ → ℕ → ℕ
at width samples x y = slice_index_or samples (width * y + x) 0

-- the index of the sample across and along edges
abbrev pub index : Window → ℕ → ℕ → ℕ
index w a b = if w.turned then w.along_end * (a - w.across_first) + b else w.across_end * (b - w.along_first) + a

abbrev pub size : Window → ℕ
size w =
    if w.turned then w.along_end * (w.across_end - w.across_first) else w.across_end * (w.along_end - w.along_first)

-- the sample across and along edges
abbrev pub seen : Window → List ℕ → ℕ → ℕ → ℕ
seen w samples a b = slice_index_or samples (index w a b) 0

abbrev pub holds : Window → ℕ → ℕ → Bool
holds w a b = (nat_le w.across_first a && nat_lt a w.across_end) && (nat_le w.along_first b && nat_lt b w.along_end)

pub record IsWindow (w : Window) : Type 0 where
  pub across : w.across_end ≤ 65536
  pub along : w.along_end ≤ 65536

-- lines of a plane, where columns are across edges
abbrev pub columns_across : ℕ → ℕ → ℕ → Window
columns_across width first end = record {
  turned = false;
  across_first = 0;
  across_end = width;
  along_first = first;
  along_end = end;
}

-- lines of a plane, where they are across edges
abbrev pub lines_across : ℕ → ℕ → ℕ → Window
lines_across width first end = record {
  turned = true;
  across_first = first;
  across_end = end;
  along_first = 0;
  along_end = width;
}
