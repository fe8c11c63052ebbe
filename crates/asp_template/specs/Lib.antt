pub mod Ranks
pub mod Domains
pub mod Templates
pub mod Compiled
pub mod Variables
