pub mod StatedHashes
pub mod Digests
