pub mod Achieving
pub mod Cubes
pub mod Founding
pub mod Resting
