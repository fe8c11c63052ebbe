pub mod DecisionHeap
pub mod Total
