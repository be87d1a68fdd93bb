-- Names of taken_pictures that crates above take from here.
pub use Rattle.taken_pictures.specs.Pictures.{held_picture}
