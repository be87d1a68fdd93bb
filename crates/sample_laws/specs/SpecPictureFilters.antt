-- Names of spec_picture_filters that crates above take from here.
pub use Rattle.spec_decoded_pictures.specs.SpecPictureFilters.{FilterData, loop_filters}
unfoldable pub use Rattle.spec_decoded_pictures.specs.SpecPictureFilters.{filter_format, no_data}
unfoldable pub use Rattle.spec_decoded_pictures.specs.SpecPictureFilters.{place_of, places_laid, places_read}
unfoldable pub use Rattle.spec_decoded_pictures.specs.SpecPictureFilters.{read_added}
