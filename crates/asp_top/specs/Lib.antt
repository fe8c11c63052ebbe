pub mod Answers
pub mod Commands
pub mod Laws
pub mod Options
pub mod Outputs
pub mod Replies
pub mod Solved
pub mod Statuses
