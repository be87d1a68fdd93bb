-- Names of row_borders that crates above take from here.
pub use Rattle.row_borders.specs.Borders.{Bordering, at_unit, with_above, with_beneath, with_left}
pub use Rattle.row_borders.specs.Building.{HoldsUnit, IsAbove, IsAtLeft, IsBeneath, IsBeside, IsDerived, tree_unit}
pub use Rattle.row_borders.specs.Next.{HasColumn, IsLaid}
pub use Rattle.row_borders.specs.Strips.{StripPlaces}
