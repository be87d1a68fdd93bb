pub mod Above
pub mod FlightValueLaws
pub mod UnitTrees
pub mod UnitWords
pub mod SpecPictureBuild
