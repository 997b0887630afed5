-- Laws that the proofs of filewrite share, and the main theorem.
pub mod Handing
pub mod FileWritten
