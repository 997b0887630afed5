-- The definitions that the contracts of face cite.
pub mod Status
pub mod Words
pub mod Opening
pub mod Decoding
pub mod Sections
pub mod Row
pub mod Rows
pub mod File
