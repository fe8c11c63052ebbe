pub mod Games
pub mod Entries
pub mod Members
