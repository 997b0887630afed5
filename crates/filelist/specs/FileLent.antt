-- What the calls over a file are lent and leave.
use Rattle.std.specs.Prelude.{ℕ, ◌*◌, List, [], ◌++◌, take, drop, Option}
use Rattle.reads.specs.Outcome.{Outcome, value, absent, refused}
use Rattle.reads.specs.Place.{part}
use Rattle.reads.specs.Segment.{segment_words}
use Rattle.pointers.specs.Index.{index_length}
use Rattle.pointers.specs.Open.{left_by}
use Rattle.pointers.specs.Tables.{Tables}
use Rattle.frames.specs.Marks.{frames_of}
use Rattle.frames.specs.declared.frames.Ranges.{Ranges}
use Rattle.macho.specs.FileTables.{over_file}
use Rattle.macho.specs.OpenFile.{opening_file_unless, segments_left, sections_left, index_left, Buffers}
use Rattle.macho.specs.declared.open.OpenedFile.{OpenedFile}
use Rattle.macho.specs.declared.open.Lent.{Lent}
use Rattle.marking.specs.declared.framed.Framed.{Framed}
use Rattle.printing.specs.Pieces.{listable}
use Rattle.filelist.specs.FileText.{framed_file}
use Rattle.filelist.specs.declared.file.Opened.{Opened}
use Rattle.reads.specs.Answer.{outcome}

-- The words of the index that are used: as many as question IndexLength asks.
abbrev pub index_used : List ℕ → List ℕ → List ℕ → List ℕ
index_used rebases binds index = take (index_length rebases binds) index

-- What is lent, after opening for ranges; with a number, 23 too, it is as it was (`file_unwritten`, proofs/FilePrinted.antt).
abbrev pub segments_after : Option Ranges → List ℕ → List ℕ → List ℕ → List ℕ → List ℕ → List ℕ → List ℕ
segments_after x file segments sections rebases binds index =
    left_by (frames_of x) (segments_left file segments sections rebases binds (index_used rebases binds index)) segments

abbrev pub sections_after : Option Ranges → List ℕ → List ℕ → List ℕ → List ℕ → List ℕ → List ℕ → List ℕ
sections_after x file segments sections rebases binds index =
    left_by (frames_of x) (sections_left file segments sections rebases binds (index_used rebases binds index)) sections

abbrev pub index_after : Option Ranges → List ℕ → List ℕ → List ℕ → List ℕ → List ℕ → List ℕ → List ℕ
index_after x file segments sections rebases binds index =
    left_by (frames_of x) (index_left file segments sections rebases binds (index_used rebases binds index)) (index_used rebases binds index)
    ++ drop (index_length rebases binds) index

-- What a listing reads, by what opening gave: of an opened file the rows of its segments and the bytes of its image info, of another neither.
abbrev pub tables_by : Outcome OpenedFile → List ℕ → List ℕ → List ℕ → List ℕ → List ℕ → List ℕ → Tables
tables_by (value o) file segments sections rebases binds index =
    over_file file (take (segment_words * o.segments) segments) sections (part file o.info_at o.info_len) rebases binds index
tables_by (absent r) file segments sections rebases binds index = over_file file [] sections [] rebases binds index
tables_by (refused k) file segments sections rebases binds index = over_file file [] sections [] rebases binds index

abbrev pub tables_lent : Outcome OpenedFile → List ℕ → List ℕ → List ℕ → List ℕ → List ℕ → List ℕ → Tables
tables_lent o file segments sections rebases binds index =
    listable (tables_by o file segments sections rebases binds (index_used rebases binds index))

-- Of what a caller lends as one.
abbrev pub framed_lent : Option Ranges → List ℕ → Lent → Outcome Framed
framed_lent x file l = framed_file x file l.segments.now l.sections.now l.rebases.now l.binds.now (index_used l.rebases.now l.binds.now l.index.now)

abbrev pub buffers_after : Option Ranges → List ℕ → Lent → Buffers
buffers_after x file l =
    record {
      segments = segments_after x file l.segments.now l.sections.now l.rebases.now l.binds.now l.index.now;
      sections = sections_after x file l.segments.now l.sections.now l.rebases.now l.binds.now l.index.now;
      index = index_after x file l.segments.now l.sections.now l.rebases.now l.binds.now l.index.now;
    }

-- The same of opening over the first n words of the index, where `last` is asked last.
abbrev pub opening_first : Outcome (Unit {0}) → ℕ → List ℕ → Lent → Outcome OpenedFile
opening_first last n file l = opening_file_unless last file l.segments.now l.sections.now l.rebases.now l.binds.now (take n l.index.now)

abbrev pub buffers_first : Outcome (Unit {0}) → ℕ → List ℕ → Lent → Buffers
buffers_first last n file l =
    record {
      segments = left_by last (segments_left file l.segments.now l.sections.now l.rebases.now l.binds.now (take n l.index.now)) l.segments.now;
      sections = left_by last (sections_left file l.segments.now l.sections.now l.rebases.now l.binds.now (take n l.index.now)) l.sections.now;
      index = left_by last (index_left file l.segments.now l.sections.now l.rebases.now l.binds.now (take n l.index.now)) (take n l.index.now) ++ drop n l.index.now;
    }

-- Of what pieces are read from as one: over the rows of so many segments and the bytes of an image info, and by what opening gave.
abbrev pub tables_over : ℕ → List ℕ → Opened → Tables
tables_over count info o =
    over_file o.file.now (take (segment_words * count) o.segments.now) o.sections.now info o.rebases.now o.binds.now
    (index_used o.rebases.now o.binds.now o.index.now)

abbrev pub tables_opened : Opened → Tables
tables_opened o = tables_lent (outcome o.answer) o.file.now o.segments.now o.sections.now o.rebases.now o.binds.now o.index.now
