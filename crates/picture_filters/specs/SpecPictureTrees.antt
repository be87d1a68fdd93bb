-- Names of spec_picture_trees that crates above take from here.
pub use Rattle.spec_picture_trees.specs.Places.{first_column, first_row, is_there, unit_places}
unfoldable pub use Rattle.spec_picture_trees.specs.Places.{unit_at}
