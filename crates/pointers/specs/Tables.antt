-- All that a caller lends (document 01, "Tables lent by the caller"), as one argument, and how it is read (document 02, notes 6 and 12).
use Rattle.std.specs.Prelude.{ℕ, ◌*◌, List, get_or}
use Rattle.reads.specs.Reference.{Slice, Slices, before}
use Rattle.reads.specs.Outcome.{text_of}
use Rattle.reads.specs.Table.{word_of}
use Rattle.reads.specs.Files.{files_of}
use Rattle.reads.specs.Place.{Image, image_of}
use Rattle.reads.specs.declared.text.Reading.{Reading}
use Rattle.reads.specs.declared.text.Reading.TheVariants.{New}
use Rattle.pointers.specs.declared.setting.Lookup.TheVariants.{Chained}
use Rattle.pointers.specs.declared.setting.Setting.{Setting}
use Rattle.pointers.specs.declared.table.Bind.{Bind}
use Rattle.pointers.specs.declared.table.Rebase.{Rebase}

pub record Tables : Type 0 where
  pub files : List (List ℕ)
  pub segments : List ℕ
  pub sections : List ℕ
  pub info : List ℕ
  pub rebases : List ℕ
  pub binds : List ℕ
  pub index : List ℕ
  pub setting : Setting

-- Texts are read under either reading; what begins, begins under the new one. Rebases are found by their chains (document 01).
abbrev pub reading_under : Reading → Setting
reading_under r = record { reading = r; lookup = Chained }

abbrev pub reading_new : Setting
reading_new = reading_under New

abbrev pub tables_of : List (List ℕ) → List ℕ → List ℕ → List ℕ → List ℕ → List ℕ → List ℕ → Tables
tables_of files segments sections info rebases binds index =
    record {
      files = files;
      segments = segments;
      sections = sections;
      info = info;
      rebases = rebases;
      binds = binds;
      index = index;
      setting = reading_new;
    }

-- The same tables under a setting.
abbrev pub under : Setting → Tables → Tables
under setting t =
    record {
      files = t.files;
      segments = t.segments;
      sections = t.sections;
      info = t.info;
      rebases = t.rebases;
      binds = t.binds;
      index = t.index;
      setting = setting;
    }

-- The same, of the slices that a function takes, as they are before the call.
abbrev pub lent : Slices → Slice → Slice → Slice → Slice → Slice → Slice → Tables
lent files segments sections info rebases binds index =
    tables_of (files_of files) (before segments) (before sections) (before info) (before rebases) (before binds) (before index)

-- The files and the segment table, as the reads take them.
abbrev pub image_in : Tables → Image
image_in t = image_of t.files t.segments

-- The same tables with another index.
abbrev pub with_index : Tables → List ℕ → Tables
with_index t index =
    under t.setting (tables_of t.files t.segments t.sections t.info t.rebases t.binds index)

-- The words of a section (present, vmaddr, length), of the section table, of a rebase (slot, target) and of a bind (slot, name offset,
-- name length, name's file).
abbrev pub section_words : ℕ
section_words = 3

abbrev pub section_table_words : ℕ
section_table_words = 15

abbrev pub rebase_words : ℕ
rebase_words = 2

abbrev pub bind_words : ℕ
bind_words = 4

-- The first word of a rebase or bind is its slot.
abbrev pub slot_of : ℕ → List ℕ → ℕ → ℕ
slot_of width table i = get_or table (i * width) 0

abbrev pub rebase_record : List ℕ → ℕ → Rebase
rebase_record rebases i = record { slot = slot_of rebase_words rebases i; target = word_of rebase_words rebases i 1 }

abbrev pub bind_record : List ℕ → ℕ → Bind
bind_record binds i =
    record {
      slot = slot_of bind_words binds i;
      name = text_of (word_of bind_words binds i 3) (word_of bind_words binds i 1) (word_of bind_words binds i 2);
    }

-- How many chains the index has for each of the two.
abbrev pub chains : ℕ
chains = 4096
