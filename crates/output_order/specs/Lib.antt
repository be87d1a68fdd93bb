pub mod SpecOutputOrder
