pub mod Taken
pub mod TakenPictures
