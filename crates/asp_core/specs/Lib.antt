pub mod Members
pub mod Machines
pub mod Events
pub mod Laws
