pub mod Ends
pub mod Readable
pub mod Taking
pub mod Laws
