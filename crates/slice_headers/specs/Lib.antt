pub mod SpecSliceHeaders
