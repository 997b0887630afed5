-- What is printed of a Mach-O file (document 02, note 3): `refused` and the number of the first question that says no, 23 last; or the lines of
-- the plain listing over the tables that loader.h defines for the file, under a setting, which holds the reading, each m row with its mark for
-- the ranges given (note 11).
use Rattle.std.specs.Prelude.{ℕ, Bool, true, false, List, length, replicate, Option}
use Rattle.reads.specs.Outcome.{Outcome, value, and_then}
use Rattle.reads.specs.declared.text.Reading.{Reading}
use Rattle.pointers.specs.Index.{index_length}
use Rattle.pointers.specs.Open.{opened_index}
use Rattle.pointers.specs.Sorted.{ascending}
use Rattle.pointers.specs.Tables.{Tables, under, with_index, section_table_words}
use Rattle.pointers.specs.declared.imageinfo.ImageInfo.{ImageInfo}
use Rattle.pointers.specs.declared.setting.Lookup.{Lookup}
use Rattle.pointers.specs.declared.setting.Lookup.TheVariants.{Chained, Sorted}
use Rattle.pointers.specs.declared.setting.Setting.{Setting}
use Rattle.macho.specs.FileTables.{file_tables}
use Rattle.macho.specs.OpenFile.{segment_table_words, asked_file, opened_file}
use Rattle.macho.specs.declared.open.OpenedFile.{OpenedFile}
use Rattle.frames.specs.declared.frames.Ranges.{Ranges}
use Rattle.marking.specs.Framed.{framed_opening}
use Rattle.marking.specs.declared.framed.Framed.{Framed}
use Rattle.printing.specs.BundleText.{opened_text}

-- The setting of a file's listing: rebases by halves where their slots ascend, which lists the same (`file_printed`, proofs/FilePrinted.antt).
abbrev pub lookup_by : Bool → Lookup
lookup_by true = Sorted
lookup_by false = Chained

abbrev pub file_setting : Reading → List ℕ → Setting
file_setting r rebases = record { reading = r; lookup = lookup_by (ascending rebases) }

-- The image info of what opening gave.
abbrev pub info_in : Outcome OpenedFile → Outcome ImageInfo
info_in o = and_then o (λ opened. value opened.info)

-- The index that question IndexLength asks, of zeros.
abbrev pub zero_index : List ℕ → List ℕ → List ℕ
zero_index rebases binds = replicate (index_length rebases binds) 0

-- The tables for the file, with such an index.
abbrev pub tables_for : List ℕ → List ℕ → List ℕ → Tables
tables_for file rebases binds = file_tables file rebases binds (zero_index rebases binds)

-- Opening the file over the words lent, and then 23 of the ranges.
unfoldable pub framed_file : Option Ranges → List ℕ → List ℕ → List ℕ → List ℕ → List ℕ → List ℕ → Outcome Framed
framed_file x file segments sections rebases binds index =
    and_then (asked_file file (length segments) (length sections)) (λ _. framed_opening x (file_tables file rebases binds index))

-- What is handed out of an opened file.
abbrev pub opened_by : List ℕ → Outcome Framed → Outcome OpenedFile
opened_by file o = and_then o (λ f. value (opened_file file f.info))

-- Opening over words of zeros, as many as are to be lent.
unfoldable pub file_opening : Option Ranges → List ℕ → List ℕ → List ℕ → Outcome Framed
file_opening x file rebases binds =
    framed_file x file (replicate segment_table_words 0) (replicate section_table_words 0) rebases binds (zero_index rebases binds)

unfoldable pub file_text : Setting → Option Ranges → List ℕ → List ℕ → List ℕ → List ℕ
file_text u x file rebases binds =
    opened_text (under u (with_index (tables_for file rebases binds) (opened_index (tables_for file rebases binds)))) (file_opening x file rebases binds)
