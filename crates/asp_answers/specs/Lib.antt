pub mod Assumptions
pub mod Candidates
pub mod Works
pub mod Recorded
pub mod AnswersState
pub mod AnswersFields
pub mod Causes
