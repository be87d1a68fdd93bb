-- Names of spec_picture_filters that crates above take from here.
pub use Rattle.spec_decoded_pictures.specs.SpecPictureFilters.{FilterData}
unfoldable pub use Rattle.spec_decoded_pictures.specs.SpecPictureFilters.{beside_unit, coded_laid, coded_near}
pub use Rattle.spec_decoded_pictures.specs.SpecPictureFilters.{is_component, loop_filters}
unfoldable pub use Rattle.spec_decoded_pictures.specs.SpecPictureFilters.{filter_format, filtered}
pub use Rattle.spec_decoded_pictures.specs.SpecPictureFilters.{pcm_disabled}
unfoldable pub use Rattle.spec_decoded_pictures.specs.SpecPictureFilters.{motion_near, place_of, places_laid}
pub use Rattle.spec_decoded_pictures.specs.SpecPictureFilters.{unit_added, units_filtered}
unfoldable pub use Rattle.spec_decoded_pictures.specs.SpecPictureFilters.{places_read, read_added}
unfoldable pub use Rattle.spec_decoded_pictures.specs.SpecPictureFilters.{units_laid}
