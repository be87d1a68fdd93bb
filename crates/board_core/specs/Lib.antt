pub mod Places
pub mod Needs
pub mod States
pub mod Runs
pub mod Progress
pub mod Reach
pub mod Uses
pub mod SoundUnits
