-- Names of spec_deblocking that crates above take from here.
pub use Rattle.spec_loop_filters.specs.SpecDeblocking.{Place, Plane, turned}
unfoldable pub use Rattle.spec_loop_filters.specs.SpecDeblocking.{deblocked, edge_sample, horizontal}
unfoldable pub use Rattle.spec_loop_filters.specs.SpecDeblocking.{vertical}
