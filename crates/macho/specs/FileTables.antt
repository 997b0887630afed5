-- The tables that loader.h defines for a file (document 02, note 3).
use Rattle.std.specs.Prelude.{ℕ, List, [], ◌∷◌}
use Rattle.reads.specs.Place.{part}
use Rattle.pointers.specs.Tables.{Tables, tables_of}
use Rattle.macho.specs.Loader.{ncmds}
use Rattle.macho.specs.Commands.{command_bytes, segments_of}
use Rattle.macho.specs.Segments.{segment_table_of}
use Rattle.macho.specs.Sections.{info_section_of, section_table_of}
use Rattle.macho.specs.declared.section.Section.{Section}

-- The segment commands of the file, and its two tables.
abbrev pub file_segments : List ℕ → List ℕ
file_segments file = segments_of (command_bytes file) (ncmds file)

abbrev pub segment_table : List ℕ → List ℕ
segment_table file = segment_table_of (command_bytes file) (ncmds file)

abbrev pub section_table : List ℕ → List ℕ
section_table file = section_table_of (command_bytes file) (ncmds file)

-- The section of the image info, and the bytes that its offset and size name, cut at the file's end; none where it is absent.
abbrev pub info_section : List ℕ → Section
info_section file = info_section_of (command_bytes file) (ncmds file)

abbrev pub info_bytes : List ℕ → List ℕ
info_bytes file = part file (info_section file).offset (info_section file).size

-- Tables over one file, which has number 0.
abbrev pub over_file : List ℕ → List ℕ → List ℕ → List ℕ → List ℕ → List ℕ → List ℕ → Tables
over_file file segments sections info rebases binds index = tables_of (file ∷ []) segments sections info rebases binds index

-- The tables for the file, with the rebases, the binds and the index that are lent.
unfoldable pub file_tables : List ℕ → List ℕ → List ℕ → List ℕ → Tables
file_tables file rebases binds index = over_file file (segment_table file) (section_table file) (info_bytes file) rebases binds index
