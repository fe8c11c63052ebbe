pub mod Layering
pub mod Refuting
pub mod Judged
pub mod Teams
pub mod Passing
pub mod Wrapping
