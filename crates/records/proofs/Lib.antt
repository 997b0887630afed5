-- Laws that the proofs of records share, and that the crates above cite.
pub mod Firsts
pub mod Headers
pub mod Jumps
pub mod Windows
pub mod Readables
pub mod NearFields
pub mod Unreadables
pub mod Decodes
pub mod Asks
pub mod Readings
pub mod Lookups
pub mod OneFile
pub mod HubImage
pub mod ListCases
pub mod RowCases
pub mod ReasonCases
pub mod Alignments
