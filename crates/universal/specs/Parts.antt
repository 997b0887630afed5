-- The part of a file that is the image, and what parts there are.
use Rattle.std.specs.Prelude.{ℕ, ◌+◌, ◌&&◌, not, List, ltb, leb, eqb, length}
use Rattle.reads.specs.Outcome.{choose}
use Rattle.reads.specs.Place.{le_in}
use Rattle.universal.specs.Fat.{nfat_arch, kind_of, part_of, arch_at, table_fits}
use Rattle.universal.specs.Architecture.{is_arch, chosen}
use Rattle.universal.specs.declared.fat.Part.{Part}
use Rattle.universal.specs.declared.fat.Kind.{Kind}
use Rattle.universal.specs.declared.arch.Arch.{Arch}
use Rattle.std.specs.Prelude.{Option, None, Some, Result, Ok, Err}
use Rattle.std.specs.Result.{result_map_both}
use Rattle.reads.specs.declared.answer.Question.{Question}
use Rattle.reads.specs.declared.answer.Question.TheVariants.{LoadCommands}

-- A thin file is one part, the whole file; mach_header_64 (loader.h), little-endian: cputype +4, cpusubtype +8.
abbrev pub thin_part : List ℕ → Part
thin_part file = part_of (le_in file 4 4) (le_in file 4 8) 0 (length file)

-- A thin file is the image, but for one with the magic of a 64-bit header, +0, that is not of the wanted architecture.
unfoldable pub thin_wanted : List ℕ → Option Arch → Option Part
thin_wanted file None = Some (thin_part file)
thin_wanted file (Some a) =
    choose (eqb (le_in file 4 0) 0xFEEDFACF && not (is_arch a (thin_part file))) None (Some (thin_part file))

-- 16, of a part: it lies in a file of n bytes.
unfoldable pub in_file : ℕ → Part → Result Part Question
in_file n p = choose (leb (p.offset + p.size) n) (Ok p) (Err LoadCommands)

-- How many entries a table has; 16 where it does not lie in the file.
unfoldable pub entries : List ℕ → Kind → Result ℕ Question
entries file kind = choose (table_fits file kind) (Ok (nfat_arch file)) (Err LoadCommands)

-- The part of an entry that is wanted, if there is one: 16 of that part.
abbrev pub entry_wanted : List ℕ → Kind → Option ℕ → Result (Option Part) Question
entry_wanted file kind None = Ok None
entry_wanted file kind (Some i) = result_map_both Some (λ k. k) (in_file (length file) (arch_at file kind i))

-- The wanted part of a universal file: 16 of the table, then of that part.
unfoldable pub fat_wanted : List ℕ → Kind → Option Arch → Result (Option Part) Question
fat_wanted file kind w =
    choose (table_fits file kind) (entry_wanted file kind (chosen file kind (nfat_arch file) w)) (Err LoadCommands)

abbrev pub wanted_by : Option Kind → List ℕ → Option Arch → Result (Option Part) Question
wanted_by None file w = Ok (thin_wanted file w)
wanted_by (Some kind) file w = fat_wanted file kind w

-- The part that is the image.
unfoldable pub part_wanted : List ℕ → Option Arch → Result (Option Part) Question
part_wanted file w = wanted_by (kind_of file) file w

-- Part i of a universal file, wherever its range lies: 16 of the table.
unfoldable pub fat_at : List ℕ → Kind → ℕ → Result (Option Part) Question
fat_at file kind i = choose (table_fits file kind) (choose (ltb i (nfat_arch file)) (Ok (Some (arch_at file kind i))) (Ok None)) (Err LoadCommands)

abbrev pub at_by : Option Kind → List ℕ → ℕ → Result (Option Part) Question
at_by None file i = choose (eqb i 0) (Ok (Some (thin_part file))) (Ok None)
at_by (Some kind) file i = fat_at file kind i

-- Part i, in table order; absent past the last.
unfoldable pub part_at : List ℕ → ℕ → Result (Option Part) Question
part_at file i = at_by (kind_of file) file i
