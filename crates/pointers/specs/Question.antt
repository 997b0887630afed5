-- The questions of document 01 that are asked of tables, in its order. Each is a test that says yes (true) or no.
use Rattle.std.specs.Prelude.{ℕ, zero, suc, ◌+◌, ◌*◌, ◌/◌, ◌%◌, Bool, true, ◌&&◌, ◌||◌, List, leb, eqb, length}
use Rattle.reads.specs.Outcome.{Outcome, value, refused, and_then, choose}
use Rattle.reads.specs.Table.{records, word_of}
use Rattle.reads.specs.Files.{is_lent, file_of, longest}
use Rattle.reads.specs.Segment.{segment_words, segment_at}
use Rattle.reads.specs.Place.{part}
use Rattle.reads.specs.Utf8.{utf8}
use Rattle.reads.specs.declared.text.Text.{Text}
use Rattle.pointers.specs.Tables.{Tables, under, reading_new, section_words, bind_words, section_table_words, rebase_words, chains, bind_record}
use Rattle.reads.specs.declared.answer.Question.TheVariants.{FileLength, SegmentTable, SectionTable, ImageInfoLength, RebaseTable, BindTable, IndexLength, FileLent}
use Rattle.reads.specs.declared.answer.Question.{Question}

-- A question with its number: a yes goes on, a no gives the number.
unfoldable pub question : Question → Bool → Outcome (Unit {0})
question k says = choose says (value tt) (refused k)

-- Document 01's outcome of each case of the code's answer.
-- 1: image at most 4,294,967,295 bytes? Asked of the longest file, it is asked of each.
unfoldable pub image_fits : ℕ → Bool
image_fits n = leb n 4294967295

-- A table of n words holds whole rows of `width` words, at most `most` of them (2, 5 and 6).
unfoldable pub whole_rows : ℕ → ℕ → ℕ → Bool
whole_rows width most n = eqb (n % width) 0 && leb (n / width) most

-- Every row passes a test, the rows numbered from 0 and below a count.
unfoldable pub every : (ℕ → Bool) → ℕ → Bool
every test zero = true
every test (suc n) = every test n && test n

-- 3, of a row: the presence word is 0 or 1, and a present length is at most n.
unfoldable pub section_fits : ℕ → ℕ → ℕ → Bool
section_fits n present len = eqb present 0 || (eqb present 1 && leb len n)

-- 3, of row i of the section table.
abbrev pub section_row_fits : ℕ → List ℕ → ℕ → Bool
section_row_fits n ws i = section_fits n (word_of section_words ws i 0) (word_of section_words ws i 2)

-- 3: section table 15 words, presence words 0 or 1, each present length at most n?
unfoldable pub section_table : ℕ → List ℕ → Bool
section_table n ws = eqb (length ws) section_table_words && every (section_row_fits n ws) (records section_words ws)

-- 4: image info at least 8 bytes?
unfoldable pub info_whole : ℕ → Bool
info_whole bytes = leb 8 bytes

-- 18 (document 02, note 6), of a segment: has its file number a lent slice?
abbrev pub segment_lent : List (List ℕ) → List ℕ → ℕ → Bool
segment_lent files segments i = is_lent files (segment_at segments i).file

-- 18, of every segment, in table order.
unfoldable pub segment_files : List (List ℕ) → List ℕ → Bool
segment_files files segments = every (segment_lent files segments) (records segment_words segments)

-- 18, of a name.
abbrev pub name_lent : List (List ℕ) → Text → Bool
name_lent files name = is_lent files name.file

-- 7, of a name: is it inside its file?
unfoldable pub name_inside : List (List ℕ) → Text → Bool
name_inside files name = leb (name.offset + name.len) (length (file_of files name.file))

-- 14 (document 02, note 2), of a name inside its file: is it UTF-8? Of one outside, the bytes that are there.
unfoldable pub name_utf8 : List (List ℕ) → Text → Bool
name_utf8 files name = utf8 (part (file_of files name.file) name.offset name.len)

-- The same of the name of bind record i.
abbrev pub bind_lent : List (List ℕ) → List ℕ → ℕ → Bool
bind_lent files binds i = name_lent files (bind_record binds i).name

abbrev pub bind_inside : List (List ℕ) → List ℕ → ℕ → Bool
bind_inside files binds i = name_inside files (bind_record binds i).name

abbrev pub bind_utf8 : List (List ℕ) → List ℕ → ℕ → Bool
bind_utf8 files binds i = name_utf8 files (bind_record binds i).name

-- 8: index at least 8,192 + rebases + binds words?
unfoldable pub index_fits : ℕ → ℕ → ℕ → Bool
index_fits rebases binds words = leb (2 * chains + rebases + binds) words

-- The questions 1 to 6, 18 of every segment after 2; a section's length is measured against the longest file.
unfoldable pub asked_tables : Tables → Outcome (Unit {0})
asked_tables t =
    and_then (question FileLength (image_fits (longest t.files))) (λ _.
    and_then (question SegmentTable (whole_rows segment_words 64 (length t.segments))) (λ _.
    and_then (question FileLent (segment_files t.files t.segments)) (λ _.
    and_then (question SectionTable (section_table (longest t.files) t.sections)) (λ _.
    and_then (question ImageInfoLength (info_whole (length t.info))) (λ _.
    and_then (question RebaseTable (whole_rows rebase_words 16777215 (length t.rebases))) (λ _.
    question BindTable (whole_rows bind_words 16777215 (length t.binds))))))))

-- Question 8.
unfoldable pub asked_index : Tables → Outcome (Unit {0})
asked_index t = question IndexLength (index_fits (records rebase_words t.rebases) (records bind_words t.binds) (length t.index))

-- The first of the questions 1 to 6, 18 of segments among them, and 8 that says no: what every call after opening asks, whatever the setting.
unfoldable pub asked_lent : Tables → Outcome (Unit {0})
asked_lent t = and_then (asked_tables t) (λ _. asked_index t)

abbrev pub asked : Tables → Outcome (Unit {0})
asked t = asked_lent (under reading_new t)

-- A call's outcome: the number of the first question that says no, or else what the call is about.
abbrev pub guarded : {A : Type 0} → Tables → Outcome A → Outcome A
guarded t o = and_then (asked t) (λ _. o)

-- 18, of every bind record, in table order.
unfoldable pub bind_files : List (List ℕ) → List ℕ → Bool
bind_files files binds = every (bind_lent files binds) (records bind_words binds)

-- 7, of every bind record, in table order.
unfoldable pub names_inside : List (List ℕ) → List ℕ → Bool
names_inside files binds = every (bind_inside files binds) (records bind_words binds)

-- 14, of every bind record, in table order.
unfoldable pub names_utf8 : List (List ℕ) → List ℕ → Bool
names_utf8 files binds = every (bind_utf8 files binds) (records bind_words binds)
