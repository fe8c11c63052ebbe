pub mod Founding
pub mod Parts
