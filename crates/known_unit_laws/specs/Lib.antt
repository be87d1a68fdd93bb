pub mod UnitTreeLaws
pub mod SpecKnownUnits
pub mod SpecPictureTrees
pub mod SpecSliceData
pub mod UnitTrees
pub mod CodingQuadtree
pub mod PlanTypes
pub mod UnitTreeLawsAgreement
