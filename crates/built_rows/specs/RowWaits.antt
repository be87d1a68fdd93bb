-- Names of row_waits that crates above take from here.
pub use Rattle.row_waits.specs.Pictures.{IsPictureOf}
pub use Rattle.row_waits.specs.declared.picture_view.PictureView.{PictureView}
