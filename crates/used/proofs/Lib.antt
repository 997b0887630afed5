-- When an old page is still good, and worked cases of what is used.
pub mod SameScans
pub mod AnswersAlike
pub mod UsedParts
pub mod ReadableUses
pub mod Yields
pub mod SameTexts
pub mod StillGoods
pub mod SameLines
pub mod SameListings
pub mod UsedCases
pub mod HubUsed
pub mod SamePages
