-- Laws that the proofs of usage share, and what the pass over a listing uses.
pub mod Driven
pub mod Leaves
pub mod NotedBy
pub mod PassUses
pub mod Passes
pub mod RangesCases
pub mod RangesGiven
pub mod RowsNoted
