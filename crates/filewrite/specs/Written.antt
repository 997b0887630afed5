-- The text of a file's listing, handed to a writer piece by piece, and how it ended.
use Rattle.std.specs.Prelude.{ℕ, ◌≡◌, List, [], Option}
use Rattle.reads.specs.Outcome.{Outcome, value, absent, refused}
use Rattle.pointers.specs.Tables.{Tables}
use Rattle.listing.specs.Listing.{Answer}
use Rattle.frames.specs.declared.frames.Ranges.{Ranges}
use Rattle.printing.specs.Pieces.{Standing, to_come}
use Rattle.printing.specs.Written.{HandedOver}
use Rattle.filelist.specs.FileText.{framed_file, opened_by}
use Rattle.filelist.specs.FileLent.{index_used, segments_after, sections_after, index_after, tables_lent}
use Rattle.filewrite.specs.declared.write.Wrote.{Wrote}
use Rattle.macho.specs.declared.open.Lent.{Lent}
use Rattle.macho.specs.declared.open.OpenedFile.{OpenedFile}
use Rattle.reads.specs.Question.{number_of}

-- The most bytes of a piece.
abbrev pub piece_bytes : ℕ
piece_bytes = 65536

-- The statuses: 0 listed, 1 refused by a number, 3 a write failed.
abbrev pub wrote : ℕ → ℕ → Wrote
wrote s k = record { status = s; number = k }

-- The status of a text that was handed over to its end, by what the last step said.
abbrev pub end_of : Outcome Answer → Wrote
end_of (value x) = wrote 0 0
end_of (absent r) = wrote 0 0
end_of (refused k) = wrote 1 (number_of k)

-- What is claimed of an end: nothing is still to come, or a write failed.
pub data Ends (t : Tables) (q : Standing) : Wrote → Type 0 where
  over : {w : Wrote} → to_come t q ≡ [] → w ≡ end_of q.said → Ends t q w
  failed : {w : Wrote} → w ≡ wrote 3 0 → Ends t q w

-- A writing from the standing p and the buffer b on, which ended so and left this ledger and this buffer.
pub record Written (t : Tables) (p : Standing) (b : List ℕ) (w : Wrote) (l c : List ℕ) : Type 0 where
  pub last : Standing
  pub handed : HandedOver piece_bytes t p b last c
  pub ledger : last.ledger ≡ l
  pub ends : Ends t last w

-- What the pieces of a file are read from, after it was opened over what was lent.
abbrev pub tables_read : Option Ranges → List ℕ → List ℕ → List ℕ → List ℕ → List ℕ → List ℕ → Tables
tables_read x file segments sections rebases binds index =
    tables_lent (opened_by file (framed_file x file segments sections rebases binds (index_used rebases binds index))) file
    (segments_after x file segments sections rebases binds index)
    (sections_after x file segments sections rebases binds index)
    rebases binds
    (index_after x file segments sections rebases binds index)

-- Of what a caller lends as one: what pieces are read from, and what they are read from after the file was opened.
abbrev pub tables_given : Outcome OpenedFile → List ℕ → Lent → Tables
tables_given o file l = tables_lent o file l.segments.now l.sections.now l.rebases.now l.binds.now l.index.now

abbrev pub tables_left : Option Ranges → List ℕ → Lent → Tables
tables_left x file l = tables_read x file l.segments.now l.sections.now l.rebases.now l.binds.now l.index.now
