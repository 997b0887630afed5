-- Laws that the proofs of macho share, and that the crates above cite.
pub mod Commands
pub mod Tables
pub mod Asking
pub mod Opening
pub mod FileOpened
pub mod FileCases
