-- The binds of a file by its bind opcodes, and the table that a call leaves.
use Rattle.std.specs.Prelude.{ℕ, ◌/◌, List, [], length, nat_le, Option, None, Some}
use Rattle.reads.specs.Outcome.{Outcome, value, absent, refused, and_then, choose}
use Rattle.pointers.specs.Tables.{bind_words}
use Rattle.macho.specs.Loader.{ncmds, cmdsize}
use Rattle.macho.specs.Commands.{command_bytes, asked_commands, segments_of}
use Rattle.macho.specs.Segments.{written}
use Rattle.fixups.specs.Tables.{named_row, rows_of}
use Rattle.opcodes.specs.DyldInfo.{first_info}
use Rattle.opcodes.specs.Streams.{streams_at}
use Rattle.fixups.specs.declared.name.Bound.{Bound}
use Rattle.reads.specs.declared.answer.Question.TheVariants.{BindTable, FixupData}

-- The dyld_info_command at a: one under 48 bytes is 19.
unfoldable pub binds_from : List ℕ → List ℕ → ℕ → ℕ → Outcome (List Bound)
binds_from file cmds count a =
    choose (nat_le 48 (cmdsize cmds a)) (streams_at file cmds (segments_of cmds count) a) (refused FixupData)

-- Without one there are no binds.
unfoldable pub binds_in : List ℕ → List ℕ → ℕ → Option ℕ → Outcome (List Bound)
binds_in file cmds count None = value []
binds_in file cmds count (Some a) = binds_from file cmds count a

-- 15 and 16, then the binds in order, or 19 or 20, the first met.
unfoldable pub binds_found : List ℕ → Outcome (List Bound)
binds_found file =
    and_then (asked_commands file) (λ _.
    binds_in file (command_bytes file) (ncmds file) (first_info (command_bytes file) (ncmds file)))

-- What the call hands back: how many binds there are, or a number.
-- And the table as it leaves it.
pub record Settled : Type 0 where
  pub count : Outcome ℕ
  pub binds : List ℕ

abbrev pub leaves : Outcome ℕ → List ℕ → Settled
leaves o t = record { count = o; binds = t }

-- The binds found go into the table if it has room; with a number it is as it was.
unfoldable pub settled : Outcome (List Bound) → List ℕ → Settled
settled (absent r) t = leaves (absent r) t
settled (refused k) t = leaves (refused k) t
settled (value xs) t =
    choose (nat_le (length (rows_of named_row xs)) (length t))
    (leaves (value (length (rows_of named_row xs) / bind_words)) (written (rows_of named_row xs) t))
    (leaves (refused BindTable) t)
