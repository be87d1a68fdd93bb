pub mod SpecFormatsLemmas
