-- The bytes that a listing uses, and when a listing is still good.
pub mod Used
pub mod UsedBy
pub mod StillGood
pub mod SamePage
