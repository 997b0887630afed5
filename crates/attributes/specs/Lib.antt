-- The definitions that the contracts of attributes cite.
pub mod Attributes
pub mod Property
pub mod Pass
pub mod Written
pub mod Puts
pub mod RoundTrip
