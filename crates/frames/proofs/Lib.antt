-- Laws that the proofs of frames share, and that the crates above cite.
pub mod MarkSteps
pub mod Floors
pub mod MarksRight
pub mod MarkCases
