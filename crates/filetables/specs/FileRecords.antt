-- The rebases and binds of a file, whichever way it carries them.
use Rattle.std.specs.Prelude.{ℕ, List, [], ◌∷◌, slice_get, Option, Some, None}
use Rattle.reads.specs.Outcome.{Outcome, value, and_then}
use Rattle.macho.specs.Loader.{ncmds}
use Rattle.macho.specs.Commands.{command_bytes, of_kind}
use Rattle.fixups.specs.FixupChains.{chained_fixups_kind}
use Rattle.fixups.specs.Fixups.{fixups_found}
use Rattle.fixups.specs.declared.chain.Fixup.{Fixup}
use Rattle.fixups.specs.declared.chain.Fixup.TheVariants.{Bind}
use Rattle.opcodes.specs.Binds.{binds_found}
use Rattle.fixups.specs.declared.name.Bound.{Bound}
use Rattle.filetables.specs.Kind.{asked_kind}

-- The binds of opcodes, as records.
unfoldable pub as_records : List Bound → List Fixup
as_records [] = []
as_records (x ∷ xs) = Bind x ∷ as_records xs

abbrev pub bound_records : Outcome (List Bound) → Outcome (List Fixup)
bound_records o = and_then o (λ xs. value (as_records xs))

-- From the chained fixups if the file has such a command; else from its bind opcodes, of which there may be none.
abbrev pub records_by : List ℕ → Option ℕ → Outcome (List Fixup)
records_by file (Some a) = fixups_found file
records_by file None = bound_records (binds_found file)

unfoldable pub records_in : List ℕ → Outcome (List Fixup)
records_in file = records_by file (slice_get (of_kind chained_fixups_kind (command_bytes file) (ncmds file) 0) 0)

-- 15, 16 and 25, then these.
unfoldable pub file_records : List ℕ → Outcome (List Fixup)
file_records file = and_then (asked_kind file) (λ _. records_in file)
