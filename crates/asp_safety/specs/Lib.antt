pub mod Variables
pub mod Bindings
pub mod Closure
pub mod Safe
pub mod Index
pub mod Representatives
