-- The definitions that the contracts of marking cite, and what is claimed of a marked listing.
pub mod Marked
pub mod MarkedListing
pub mod MarkedRun
pub mod Framed
