-- The definitions that the contracts of macho cite.
pub mod Number
pub mod Loader
pub mod Commands
pub mod Segments
pub mod Sections
pub mod FileTables
pub mod OpenFile
