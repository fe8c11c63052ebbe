pub mod Cubes
pub mod Levels
pub mod Masks
pub mod MaskedBounds
pub mod Sets
