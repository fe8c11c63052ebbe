pub mod Ends
pub mod Children
pub mod Causes
pub mod Places
pub mod Works
