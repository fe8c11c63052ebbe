pub mod Cubes
pub mod Marks
pub mod Taken
