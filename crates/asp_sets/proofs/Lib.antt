pub mod Ends
pub mod Taking
pub mod Reading
pub mod Spelling
pub mod Walking
pub mod Vocabulary
pub mod Apart
pub mod Again
