-- The definitions that the contracts of ancestry cite.
pub mod Asked
pub mod Chain
pub mod Rebases
pub mod Ancestry
pub mod Filling
pub mod Doubling
pub mod Following
