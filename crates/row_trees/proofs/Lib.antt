mod Carries
mod Found
mod Standing
pub mod PictureFiltersLemmas
pub mod KnownPictureLawsLemmas
pub mod UnitWordsLemmas
