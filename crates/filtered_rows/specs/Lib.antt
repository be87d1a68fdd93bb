pub mod Components
pub mod Phases
pub mod Memory
pub mod FlightFacts
pub mod SpecPictureFilters
pub mod FlightUnitLaws
pub mod PictureBuild
