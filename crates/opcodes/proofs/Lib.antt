-- Laws that the proofs of opcodes share.
pub mod Decoding
pub mod Sizes
pub mod Bindings
pub mod Runs
pub mod Names
pub mod Walks
pub mod Earlier
pub mod Building
pub mod Cases
