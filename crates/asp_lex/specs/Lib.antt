pub mod Slices
pub mod Fronts
