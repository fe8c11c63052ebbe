pub mod Cubing
pub mod Deriving
pub mod Exchange
pub mod FoundedAtoms
pub mod Marking
