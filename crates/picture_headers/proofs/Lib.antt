pub mod FirstFlags
pub mod KeptPictures
