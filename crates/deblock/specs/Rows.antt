-- Rows of a plane.
use Rattle.std.specs.Prelude.{ℕ, ◌+◌, ◌*◌, ◌/◌, ◌%◌, ◌≤◌, ◌≡◌, Bool, ◌&&◌, nat_le, nat_lt}
use Rattle.deblock.specs.declared.row.Row.{Row}
use Rattle.deblock.specs.Samples.{IsDepth}

pub record IsRow (row : Row) : Type 0 where
  pub depth : IsDepth row.bit_depth
  pub width : row.width ≤ 65536
  pub height : row.height ≤ 65536
  pub columns : row.width % 4 ≡ 0
  pub lines : row.height % 4 ≡ 0
  pub first : row.first ≤ row.top
  pub top : row.top ≤ row.bottom
  pub bottom : row.bottom ≤ row.end
  pub end : row.end ≤ row.height
  pub begins : row.top % 4 ≡ 0
  pub ends : row.bottom % 4 ≡ 0

-- whether a line is one of the row's
abbrev pub is_in_row : Row → ℕ → Bool
is_in_row row y = nat_le row.top y && nat_lt y row.bottom

-- whether the horizontal edge that a line stands within four lines of is one of the row's
abbrev pub is_beside_row : Row → ℕ → Bool
is_beside_row row y = nat_le row.top (8 * ((y + 4) / 8)) && nat_lt (8 * ((y + 4) / 8)) row.bottom
