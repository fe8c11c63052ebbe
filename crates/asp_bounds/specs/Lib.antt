pub mod Terms
pub mod Denials
