-- Names of spec_loop_filters that crates above take from here.
pub use Rattle.spec_loop_filters.proofs.Ranges.{deblocked_small, final_small}
