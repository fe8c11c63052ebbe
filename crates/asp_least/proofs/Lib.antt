pub mod FoundedAtoms
pub mod PartLemmas
