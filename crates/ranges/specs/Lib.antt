-- The definitions that the contracts of ranges cite.
pub mod Range
pub mod Runs
pub mod Sheet
pub mod Sweep
pub mod Written
