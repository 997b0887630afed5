-- Laws that the proofs of dispatch share, and the theorems on the effective methods.
pub mod Bytes
pub mod Held
pub mod Asking
pub mod Places
pub mod Effects
pub mod Notes
pub mod Matches
pub mod Plain
pub mod SelectorTable
pub mod Walks
pub mod Scans
pub mod StepsSeen
pub mod Origin
pub mod Answers
pub mod Unrefused
pub mod Cases
