-- Names of spec_residuals that crates above take from here.
pub use Rattle.spec_residuals.specs.Levels.{Residual}
pub use Rattle.spec_residuals.specs.declared.block.Level.{Level}
