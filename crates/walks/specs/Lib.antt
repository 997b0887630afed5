-- The definitions that the contracts of walks cite.
pub mod Handed
pub mod Gather
pub mod Walk
pub mod PlainWalk
pub mod Slots
pub mod Sections
pub mod PlainSections
pub mod ProtocolNames
