pub mod Levels
pub mod BoundTemplates
pub mod Walks
pub mod Counts
pub mod Faults
pub mod Gaps
pub mod Laws
