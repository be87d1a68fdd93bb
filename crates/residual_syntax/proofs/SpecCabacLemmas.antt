-- Names of spec_cabac that crates above take from here.
pub use Rattle.spec_cabac.proofs.Prefix.{unary_ends, unary_goes_on, unary_over, unary_stops}
