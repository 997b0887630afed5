-- Laws that the proofs of universal share.
pub mod Numbers
pub mod Tables
pub mod Searches
pub mod Told
pub mod Cases
