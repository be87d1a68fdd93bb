-- Lines of a component in memory: those of a row of coding tree blocks and so many on each side, as far as the
-- component has them.
use Rattle.std.specs.Prelude.{◌≡◌, ◌<◌, ◌≤◌, ℕ, ◌+◌, ◌-◌, ◌*◌, min, List}
use Rattle.deblock.specs.declared.row.Row.{Row}
use Rattle.deblock.specs.Windows.{at}
use Rattle.loop_filters.specs.declared.component.Component.{Component}

-- the first of them
abbrev pub first_line : Component → ℕ → ℕ → ℕ
first_line component row beside = component.size * row - beside

-- the line behind the last
abbrev pub end_line : Component → ℕ → ℕ → ℕ
end_line component row beside = min (component.size * row + component.size + beside) component.height

-- how many samples they have
abbrev pub count_of : Component → ℕ → ℕ → ℕ
count_of component row beside = component.width * (end_line component row beside - first_line component row beside)

-- they are those of a plane, by column and line
abbrev pub HoldLines : Component → ℕ → ℕ → (ℕ → ℕ → ℕ) → List ℕ → Type 0
HoldLines component row beside f samples =
    (x y : ℕ) → x < component.width → first_line component row beside ≤ y → y < end_line component row beside
    → at component.width samples x (y - first_line component row beside) ≡ f x y

-- and so are the row's own lines, which stand among them
abbrev pub HoldRow : Component → ℕ → ℕ → (ℕ → ℕ → ℕ) → List ℕ → Type 0
HoldRow component row beside f samples =
    (x y : ℕ) → x < component.width → first_line component row 0 ≤ y → y < end_line component row 0
    → at component.width samples x (y - first_line component row beside) ≡ f x y

-- a row of a plane, of which these lines are there, and that ends with the last of them
abbrev pub row_around : Component → ℕ → ℕ → Row
row_around component row beside = record {
  plane = component.plane;
  bit_depth = component.depth;
  width = component.width;
  height = component.height;
  first = first_line component row beside;
  end = end_line component row beside;
  top = component.size * row;
  bottom = end_line component row beside;
}

-- the same lines with four on each side, all of them as the row's own
abbrev pub all_lines : Component → ℕ → Row
all_lines component row = record {
  plane = component.plane;
  bit_depth = component.depth;
  width = component.width;
  height = component.height;
  first = first_line component row 4;
  end = end_line component row 4;
  top = first_line component row 4;
  bottom = end_line component row 4;
}
