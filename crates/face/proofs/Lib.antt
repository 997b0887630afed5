-- Laws that the proofs of face share.
pub mod Told
pub mod Settings
pub mod Copies
pub mod Codes
pub mod RowLaws
