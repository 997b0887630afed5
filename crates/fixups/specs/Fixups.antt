-- The rebases and binds of a file by its chained fixups, and the tables that a call leaves (document 02, note 7).
use Rattle.std.specs.Prelude.{ℕ, ◌+◌, ◌/◌, List, [], ◌∷◌, length, nat_le, Result, Ok, Err}
use Rattle.reads.specs.Outcome.{Outcome, value, absent, refused, and_then, choose}
use Rattle.reads.specs.Place.{part}
use Rattle.pointers.specs.Tables.{rebase_words, bind_words}
use Rattle.pointers.specs.Symbol.{ascii}
use Rattle.macho.specs.Loader.{ncmds, cmdsize, vmaddr}
use Rattle.macho.specs.Commands.{command_bytes, asked_commands, of_kind, segments_of}
use Rattle.macho.specs.Segments.{written}
use Rattle.macho.specs.Sections.{named, padded}
use Rattle.fixups.specs.FixupChains.{chained_fixups_kind, dataoff, datasize}
use Rattle.fixups.specs.Starts.{walk_of}
use Rattle.fixups.specs.Tables.{rebase_row, bind_row, rows_of}
use Rattle.fixups.specs.declared.chain.Fixup.{Fixup}
use Rattle.reads.specs.declared.answer.Question.{Question}
use Rattle.reads.specs.declared.answer.Question.TheVariants.{RebaseTable, BindTable, FixupData}

-- The image base: the vmaddr of the first segment `__TEXT` (segname +8), 0 without one.
unfoldable pub base_of : List ℕ → List ℕ → ℕ
base_of cmds [] = 0
base_of cmds (a ∷ segs) = choose (named cmds (padded (ascii "__TEXT")) (a + 8)) (vmaddr cmds a) (base_of cmds segs)

-- The LC_DYLD_CHAINED_FIXUPS at a: one under 16 bytes is 19.
unfoldable pub fixups_from : List ℕ → List ℕ → ℕ → ℕ → Outcome (List Fixup)
fixups_from file cmds count a =
    choose (nat_le 16 (cmdsize cmds a))
    (walk_of file (part file (dataoff cmds a) (datasize cmds a)) cmds (dataoff cmds a) (base_of cmds (segments_of cmds count)) (segments_of cmds count))
    (refused FixupData)

-- The first of them counts; without one there are no records.
unfoldable pub fixups_in : List ℕ → List ℕ → ℕ → List ℕ → Outcome (List Fixup)
fixups_in file cmds count [] = value []
fixups_in file cmds count (a ∷ others) = fixups_from file cmds count a

-- 15 and 16, then the records in walk order, or 19 or 20, the first met.
unfoldable pub fixups_found : List ℕ → Outcome (List Fixup)
fixups_found file =
    and_then (asked_commands file) (λ _.
    fixups_in file (command_bytes file) (ncmds file) (of_kind chained_fixups_kind (command_bytes file) (ncmds file) 0))

-- What the call hands back: how many rebases and binds there are, or a number.
pub record Pair : Type 0 where
  pub rebased : ℕ
  pub bound : ℕ

abbrev pub pair : ℕ → ℕ → Pair
pair r b = record { rebased = r; bound = b }

abbrev pub built_outcome : Result (ℕ × ℕ) Question → Outcome Pair
built_outcome (Ok n) = value (pair n.0 n.1)
built_outcome (Err k) = refused k

-- And the two tables as it leaves them.
pub record Settled : Type 0 where
  pub counts : Outcome Pair
  pub rebases : List ℕ
  pub binds : List ℕ

abbrev pub leaves : Outcome Pair → List ℕ → List ℕ → Settled
leaves o rs bs = record { counts = o; rebases = rs; binds = bs }

-- The records found go into the tables if both have room, 5 before 6; with a number both are as they were.
unfoldable pub settled : Outcome (List Fixup) → List ℕ → List ℕ → Settled
settled (absent r) rs bs = leaves (absent r) rs bs
settled (refused k) rs bs = leaves (refused k) rs bs
settled (value xs) rs bs =
    choose (nat_le (length (rows_of rebase_row xs)) (length rs))
    (choose (nat_le (length (rows_of bind_row xs)) (length bs))
    (leaves (value (pair (length (rows_of rebase_row xs) / rebase_words) (length (rows_of bind_row xs) / bind_words))) (written (rows_of rebase_row xs) rs) (written (rows_of bind_row xs) bs))
    (leaves (refused BindTable) rs bs))
    (leaves (refused RebaseTable) rs bs)
