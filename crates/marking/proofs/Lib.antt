-- Laws that the proofs of marking share, and what is claimed of a marked listing.
pub mod StepKeeps
pub mod Folds
pub mod StepsLeft
pub mod WholeMarked
pub mod MarksListed
pub mod MarkedCases
pub mod Framing
