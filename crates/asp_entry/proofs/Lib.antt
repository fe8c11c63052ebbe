pub mod CubeLiterals
pub mod Marking
pub mod Merging
pub mod Taking
pub mod Truths
