pub mod Packed
pub mod TruePlaces
