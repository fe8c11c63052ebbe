pub mod Held
pub mod Keeping
pub mod Adding
pub mod Shelving
