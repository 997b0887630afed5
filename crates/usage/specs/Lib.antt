-- The definitions that the contracts of usage cite.
pub mod Noting
pub mod Entries
pub mod Pass
pub mod UsedRanges
