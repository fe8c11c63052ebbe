pub mod Rules
pub mod Checkable
