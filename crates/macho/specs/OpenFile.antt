-- Opening a file (document 02, note 3): 15 and 16, then document 01's questions of the tables that would be filled; then the tables are
-- filled and the index is written.
use Rattle.std.specs.Prelude.{◌≡◌, ℕ, ◌*◌, ◌&&◌, List, leb, eqb, length, take}
use Rattle.reads.specs.Outcome.{Outcome, value, and_then}
use Rattle.reads.specs.Segment.{segment_words}
use Rattle.reads.specs.Place.{part}
use Rattle.pointers.specs.Tables.{Tables, section_table_words}
use Rattle.pointers.specs.Question.{question, image_fits}
use Rattle.pointers.specs.Index.{indexed}
use Rattle.pointers.specs.Open.{opening, opening_unless, left_by}
use Rattle.pointers.specs.declared.imageinfo.ImageInfo.{ImageInfo}
use Rattle.macho.specs.Commands.{asked_commands}
use Rattle.macho.specs.Segments.{segment_table_of, written}
use Rattle.macho.specs.Sections.{section_table_of}
use Rattle.macho.specs.FileTables.{file_segments, segment_table, section_table, info_section, info_bytes, over_file, file_tables}
use Rattle.macho.specs.declared.open.OpenedFile.{OpenedFile}
use Rattle.macho.specs.declared.open.Lent.{Lent}
use Rattle.reads.specs.declared.answer.Question.TheVariants.{FileLength, SegmentTable, SectionTable}

-- The words lent for 64 segments.
abbrev pub segment_table_words : ℕ
segment_table_words = 64 * segment_words

-- 1, and what 2 and 3 ask of the words lent for the tables: exactly those of 64 segments, for at most 64, and exactly 15.
unfoldable pub asked_lent : List ℕ → ℕ → ℕ → Outcome (Unit {0})
asked_lent file segments sections =
    and_then (question FileLength (image_fits (length file))) (λ _.
    and_then (question SegmentTable (eqb segments segment_table_words && leb (length (file_segments file)) 64)) (λ _.
    question SectionTable (eqb sections section_table_words)))

-- 15 and 16, then these.
unfoldable pub asked_file : List ℕ → ℕ → ℕ → Outcome (Unit {0})
asked_file file segments sections = and_then (asked_commands file) (λ _. asked_lent file segments sections)

-- What is handed out: the number of segments, the image info, and where its bytes lie in the file.
abbrev pub opened_file : List ℕ → ImageInfo → OpenedFile
opened_file file info =
    record { segments = length (file_segments file); info = info; info_at = (info_section file).offset; info_len = length (info_bytes file) }

-- The other questions are those of opening the tables for the file.
unfoldable pub opening_file : List ℕ → List ℕ → List ℕ → List ℕ → List ℕ → List ℕ → Outcome OpenedFile
opening_file file segments sections rebases binds index =
    and_then (asked_file file (length segments) (length sections)) (λ _.
    and_then (opening (file_tables file rebases binds index)) (λ info. value (opened_file file info)))

-- The same for a caller that asks a question of its own last, before the first write: `last` is what that says.
abbrev pub opening_file_unless : Outcome (Unit {0}) → List ℕ → List ℕ → List ℕ → List ℕ → List ℕ → List ℕ → Outcome OpenedFile
opening_file_unless last file segments sections rebases binds index =
    and_then (asked_file file (length segments) (length sections)) (λ _.
    and_then (opening_unless last (file_tables file rebases binds index)) (λ info. value (opened_file file info)))

-- What is left in each buffer; with a number it is as it was.
unfoldable pub segments_left : List ℕ → List ℕ → List ℕ → List ℕ → List ℕ → List ℕ → List ℕ
segments_left file segments sections rebases binds index =
    left_by (opening_file file segments sections rebases binds index) (written (segment_table file) segments) segments

unfoldable pub sections_left : List ℕ → List ℕ → List ℕ → List ℕ → List ℕ → List ℕ → List ℕ
sections_left file segments sections rebases binds index =
    left_by (opening_file file segments sections rebases binds index) (section_table file) sections

unfoldable pub index_left : List ℕ → List ℕ → List ℕ → List ℕ → List ℕ → List ℕ → List ℕ
index_left file segments sections rebases binds index =
    left_by (opening_file file segments sections rebases binds index) (indexed rebases binds index) index

-- What later calls are lent of an opened file.
abbrev pub later_tables : List ℕ → List ℕ → List ℕ → List ℕ → List ℕ → List ℕ → OpenedFile → Tables
later_tables file segments sections rebases binds index o =
    over_file file
    (take (segment_words * o.segments) (segments_left file segments sections rebases binds index))
    (sections_left file segments sections rebases binds index)
    (part file o.info_at o.info_len) rebases binds
    (index_left file segments sections rebases binds index)

-- Of what a caller lends as one.
abbrev pub opening_lent : List ℕ → Lent → Outcome OpenedFile
opening_lent file l = opening_file file l.segments.now l.sections.now l.rebases.now l.binds.now l.index.now

-- The tables that the commands of a file define, with its image info and what is lent as one.
abbrev pub tables_over : List ℕ → List ℕ → ℕ → List ℕ → Lent → Tables
tables_over file cmds count info l =
    over_file file (segment_table_of cmds count) (section_table_of cmds count) info l.rebases.now l.binds.now l.index.now

-- What the buffers that opening writes hold, and what it leaves there.
pub record Buffers : Type 0 where
  pub segments : List ℕ
  pub sections : List ℕ
  pub index : List ℕ

abbrev pub buffers : Lent → Buffers
buffers l = record { segments = l.segments.now; sections = l.sections.now; index = l.index.now }

-- The buffers as they are, but for what the index then holds.
abbrev pub indexed_by : Lent → List ℕ → Buffers
indexed_by l index = record { segments = l.segments.now; sections = l.sections.now; index = index }

abbrev pub buffers_left : List ℕ → Lent → Buffers
buffers_left file l =
    record {
      segments = segments_left file l.segments.now l.sections.now l.rebases.now l.binds.now l.index.now;
      sections = sections_left file l.segments.now l.sections.now l.rebases.now l.binds.now l.index.now;
      index = index_left file l.segments.now l.sections.now l.rebases.now l.binds.now l.index.now;
    }

-- The same where a caller asks last.
abbrev pub opening_lent_unless : Outcome (Unit {0}) → List ℕ → Lent → Outcome OpenedFile
opening_lent_unless last file l = opening_file_unless last file l.segments.now l.sections.now l.rebases.now l.binds.now l.index.now

abbrev pub buffers_unless : Outcome (Unit {0}) → List ℕ → Lent → Buffers
buffers_unless last file l =
    record {
      segments = left_by last (buffers_left file l).segments l.segments.now;
      sections = left_by last (buffers_left file l).sections l.sections.now;
      index = left_by last (buffers_left file l).index l.index.now;
    }

-- What is lent stays the same slices, and what is only read stays as it is.
pub record Kept (o p : Lent) : Type 0 where
  pub segments : p.segments.ghost_name ≡ o.segments.ghost_name
  pub sections : p.sections.ghost_name ≡ o.sections.ghost_name
  pub index : p.index.ghost_name ≡ o.index.ghost_name
  pub rebases : p.rebases.now ≡ o.rebases.now
  pub binds : p.binds.now ≡ o.binds.now
