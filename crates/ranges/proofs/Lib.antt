-- Laws that the proofs of ranges share, and that the crates above cite.
pub mod Covers
pub mod RunLaws
pub mod ApartLaws
pub mod MergedLaws
pub mod BitLaws
pub mod SheetLaws
pub mod Shown
pub mod SweepLaws
pub mod StepLaws
pub mod WrittenLaws
pub mod MergedCases
