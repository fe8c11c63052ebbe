pub mod Lone
pub mod Choosing
pub mod Leaving
pub mod Places
pub mod Verdicts
pub mod Stating
pub mod Reasons
pub mod Settled
