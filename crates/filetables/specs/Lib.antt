-- The definitions that the contracts of filetables cite.
pub mod Kind
pub mod FileRecords
