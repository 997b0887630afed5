-- The numbers of the questions (documents 01 and 02).
use Rattle.std.specs.Prelude.{ℕ}
use Rattle.reads.specs.declared.answer.Question.{Question}
use Rattle.reads.specs.declared.answer.Question.TheVariants.{FileLength, SegmentTable, SectionTable, ImageInfoLength, RebaseTable, BindTable, NameInside, IndexLength, ChainOrder, WalkState, LedgerLength, ItemRoom, BundleLength, NameUtf8, Header, LoadCommands, Depth, FileLent, FixupData, FixupSlot, AncestryRoom, SelectorRoom, RangeOrder, RangeRoom, FileKind}

abbrev pub number_of : Question → ℕ
number_of FileLength = 1
number_of SegmentTable = 2
number_of SectionTable = 3
number_of ImageInfoLength = 4
number_of RebaseTable = 5
number_of BindTable = 6
number_of NameInside = 7
number_of IndexLength = 8
number_of ChainOrder = 9
number_of WalkState = 10
number_of LedgerLength = 11
number_of ItemRoom = 12
number_of BundleLength = 13
number_of NameUtf8 = 14
number_of Header = 15
number_of LoadCommands = 16
number_of Depth = 17
number_of FileLent = 18
number_of FixupData = 19
number_of FixupSlot = 20
number_of AncestryRoom = 21
number_of SelectorRoom = 22
number_of RangeOrder = 23
number_of RangeRoom = 24
number_of FileKind = 25
