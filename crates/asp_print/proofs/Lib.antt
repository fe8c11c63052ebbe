pub mod Writing
pub mod Forms
pub mod Members
pub mod Shapes
pub mod Lexing
pub mod Numerals
pub mod Reprints
pub mod ReprintedProgram
