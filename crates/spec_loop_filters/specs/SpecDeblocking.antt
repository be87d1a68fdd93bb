-- Names of spec_deblocking that crates above take from here.
pub use Rattle.spec_deblocking.specs.Places.{side, turned}
unfoldable pub use Rattle.spec_deblocking.specs.Planes.{deblocked, edge_sample, horizontal, vertical}
pub use Rattle.spec_deblocking.specs.declared.place.Place.{Place}
pub use Rattle.spec_deblocking.specs.declared.place.Plane.{Plane}
pub use Rattle.spec_deblocking.specs.declared.place.Plane.TheVariants.{Chroma, Luma}
