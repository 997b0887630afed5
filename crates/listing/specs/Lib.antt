-- The definitions that the contracts of listing cite.
pub mod Bundle
pub mod PlainListing
pub mod DecodeListing
pub mod ListedAsBefore
pub mod Listing
pub mod ListingAnswer
pub mod ListingRun
