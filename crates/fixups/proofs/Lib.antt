-- Laws that the proofs of fixups share.
pub mod Names
pub mod Rows
pub mod Visits
pub mod Links
pub mod Joining
pub mod Pages
pub mod Building
pub mod Slots
pub mod Cases
pub mod Options
