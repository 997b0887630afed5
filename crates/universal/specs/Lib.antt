-- The definitions that the contracts of universal cite.
pub mod Number
pub mod Fat
pub mod Architecture
pub mod Parts
