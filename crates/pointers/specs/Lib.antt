-- The definitions that the contracts of pointers cite.
pub mod Tables
pub mod Bytes
pub mod Question
pub mod ImageInfo
pub mod Section
pub mod Index
pub mod IndexFold
pub mod Chain
pub mod Sorted
pub mod Symbol
pub mod Slot
pub mod Open
