pub mod Validity
pub mod Living
