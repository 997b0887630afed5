-- The definitions that the contracts of printing cite.
pub mod Buffer
pub mod LineText
pub mod BundleText
pub mod Pieces
pub mod BundleLent
pub mod Written
pub mod Filled
