-- Laws that the proofs of filetables share.
pub mod FileKinds
pub mod Records
pub mod KindCases
