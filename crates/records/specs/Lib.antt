-- The definitions that the contracts of records cite.
pub mod Header
pub mod Ask
pub mod Decode
pub mod Asks
pub mod Readings
pub mod Near
pub mod Class
pub mod Protocol
pub mod Category
pub mod List
pub mod Search
pub mod Tries
pub mod OpenList
pub mod Row
