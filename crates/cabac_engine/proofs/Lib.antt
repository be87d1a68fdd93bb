pub mod Reading
pub mod Stepping
pub mod Bypasses
pub mod ContextRules
pub mod Held
pub mod Trailing
pub mod Reciprocals
