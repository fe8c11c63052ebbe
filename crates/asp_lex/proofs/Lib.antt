pub mod Runs
pub mod Fronts
pub mod Classes
pub mod Numbers
pub mod Comments
pub mod Signs
pub mod Slices
pub mod Texts
