pub mod Counting
pub mod Sorting
pub mod Marking
pub mod Denying
