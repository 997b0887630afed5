-- The segment table that loader.h defines (segment_command_64), in command order.
use Rattle.std.specs.Prelude.{ℕ, List, [], ◌∷◌, ◌++◌, length, drop}
use Rattle.macho.specs.Loader.{vmaddr, vmsize, fileoff, filesize}
use Rattle.macho.specs.Commands.{segments_of}

-- vmaddr, vmsize, fileoff, filesize, and the file number (document 02, note 6): 0, that of the file itself.
abbrev pub segment_row : List ℕ → ℕ → List ℕ
segment_row cmds a = vmaddr cmds a ∷ vmsize cmds a ∷ fileoff cmds a ∷ filesize cmds a ∷ 0 ∷ []

-- The rows of the segment commands that stand at the offsets given.
unfoldable pub segment_rows : List ℕ → List ℕ → List ℕ
segment_rows cmds [] = []
segment_rows cmds (a ∷ others) = segment_row cmds a ++ segment_rows cmds others

abbrev pub segment_table_of : List ℕ → ℕ → List ℕ
segment_table_of cmds count = segment_rows cmds (segments_of cmds count)

-- Words put at the start of a table; those past the last stay.
unfoldable pub written : List ℕ → List ℕ → List ℕ
written ws table = ws ++ drop (length ws) table
