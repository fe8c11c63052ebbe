pub mod Fewer
pub mod First
