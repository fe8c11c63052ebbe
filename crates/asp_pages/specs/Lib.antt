pub mod Regions
pub mod Collected
pub mod Laws
