pub mod BoundExamples
