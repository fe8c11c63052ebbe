pub mod Truths
pub mod Finding
pub mod Orders
