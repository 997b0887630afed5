-- The definitions that the contracts of encodings cite.
pub mod Grammar
pub mod Machine
pub mod Words
pub mod Parser
