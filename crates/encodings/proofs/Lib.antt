-- Laws over the definitions of encodings.
pub mod ByteLaws
pub mod Levels
pub mod Choices
pub mod Steps
pub mod Rows
pub mod States
pub mod Sound
pub mod Complete
pub mod Depth
pub mod Lengths
pub mod Shows
pub mod Turns
pub mod Reached
pub mod Answers
pub mod EncodingCases
