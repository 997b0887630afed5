-- The definitions that the contracts of filewrite cite.
pub mod Written
