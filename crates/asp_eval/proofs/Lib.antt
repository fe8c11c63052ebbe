pub mod Marking
pub mod Choosing
pub mod Searching
pub mod Deciding
