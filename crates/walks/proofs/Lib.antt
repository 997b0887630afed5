-- Laws that the proofs of walks share, and that the crates above cite.
pub mod Gathers
pub mod Steps
pub mod Walk
pub mod SlotLaws
pub mod SectionLaws
pub mod Moves
pub mod PlainWalks
pub mod OpenedSections
pub mod MetAddresses
pub mod SectionCases
pub mod ReasonCases
pub mod ProtocolLists
pub mod ProtocolNameWalks
pub mod ProtocolNameCases
pub mod HubRun
