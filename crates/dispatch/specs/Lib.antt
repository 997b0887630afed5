-- The definitions that the contracts of dispatch cite.
pub mod Sources
pub mod Appearances
pub mod Dispatch
pub mod SlotSources
pub mod Position
pub mod RowsLeft
pub mod Claims
pub mod Table
pub mod Written
pub mod Asking
