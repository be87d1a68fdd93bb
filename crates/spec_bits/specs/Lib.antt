pub mod Bits
pub mod ExpGolomb
pub mod Alignment
pub mod Spelling
