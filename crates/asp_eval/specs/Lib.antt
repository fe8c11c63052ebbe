pub mod Covers
pub mod Broken
pub mod Covering
pub mod Decided
