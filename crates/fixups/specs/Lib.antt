-- The definitions that the contracts of fixups cite.
pub mod FixupChains
pub mod Imports
pub mod Chain
pub mod Starts
pub mod Tables
pub mod Fixups
pub mod Slots
