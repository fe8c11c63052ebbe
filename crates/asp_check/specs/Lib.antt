pub mod Counts
pub mod Refusals
pub mod Laws
pub use Rattle.asp_checked.specs.Condition
