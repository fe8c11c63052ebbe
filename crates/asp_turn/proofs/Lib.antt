pub mod Prefixes
pub mod Views
pub mod Keeps
pub mod Hands
pub mod Spelled
