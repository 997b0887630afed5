-- The definitions that the contracts of opcodes cite.
pub mod DyldInfo
pub mod Opcodes
pub mod Binding
pub mod Streams
pub mod Tables
pub mod Binds
pub mod Names
