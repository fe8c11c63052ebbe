pub mod Counts
pub mod MoveLaws
pub mod Moving
