-- Names of spec_loop_filters that crates above take from here.
pub use Rattle.spec_decoded_pictures.proofs.SpecLoopFiltersLemmas.{deblocked_small}
