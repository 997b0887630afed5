-- Laws that the proofs of attributes share.
pub mod ValueEnds
pub mod AttributeItems
pub mod Passes
pub mod Puts
pub mod Rows
pub mod PutParts
pub mod WrittenAnswers
pub mod Parts
pub mod Gathers
pub mod RoundTrip
pub mod Utf8Cuts
pub mod WrittenUtf8
pub mod DecodedAgain
pub mod AttributeAnswers
pub mod AttributeCases
pub mod PropertyCases
