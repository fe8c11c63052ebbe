pub mod Formed
pub mod Deciding
pub mod Exhausting
pub mod Refusing
pub mod Steps
pub mod Advancing
pub mod Trues
