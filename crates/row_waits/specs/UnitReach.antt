-- Names of unit_reach that crates above take from here.
pub use Rattle.unit_reach.specs.declared.reach.ReachSource.{ReachSource}
