-- Laws that the proofs of filelist share, and what is claimed of a listed file.
pub mod FileAnswers
pub mod FilePrinted
pub mod FileTextCases
