-- The structs of fat.h: their fields, by the offset of each, and their sizes; numbers are big-endian. `a` is where an entry stands.
use Rattle.std.specs.Prelude.{ℕ, ◌+◌, ◌*◌, Bool, List, leb, eqb, length, Option, None, Some}
use Rattle.reads.specs.Outcome.{choose}
use Rattle.universal.specs.Number.{be_in}
use Rattle.universal.specs.declared.fat.Part.{Part}
use Rattle.universal.specs.declared.fat.Kind.{Kind}
use Rattle.universal.specs.declared.fat.Kind.TheVariants as kind

-- fat_header: 8 bytes; magic +0, nfat_arch +4. The table of that many entries follows it.
abbrev pub magic : List ℕ → ℕ
magic file = be_in file 4 0

abbrev pub nfat_arch : List ℕ → ℕ
nfat_arch file = be_in file 4 4

-- FAT_MAGIC, FAT_MAGIC_64; a file with another magic, or with none, is thin, of no kind.
unfoldable pub kind_of : List ℕ → Option Kind
kind_of file = choose (eqb (magic file) 0xCAFEBABE) (Some kind.Fat) (choose (eqb (magic file) 0xCAFEBABF) (Some kind.Fat64) None)

abbrev pub part_of : ℕ → ℕ → ℕ → ℕ → Part
part_of cputype cpusubtype offset size = record { cputype = cputype; cpusubtype = cpusubtype; offset = offset; size = size }

-- An entry: cputype +0, cpusubtype +4, offset +8, and size after it, of n bytes each.
unfoldable pub arch_in : ℕ → List ℕ → ℕ → Part
arch_in n file a = part_of (be_in file 4 (a + 0)) (be_in file 4 (a + 4)) (be_in file n (a + 8)) (be_in file n (a + 8 + n))

-- fat_arch: 20 bytes; offset +8 and size +12, of 4 bytes each. fat_arch_64: 32 bytes; offset +8 and size +16, of 8 bytes each.
abbrev pub fat_arch : List ℕ → ℕ → Part
fat_arch = arch_in 4

abbrev pub fat_arch64 : List ℕ → ℕ → Part
fat_arch64 = arch_in 8

-- Where entry i stands; of the entry after the last, the end of the table.
abbrev pub arch_offset : Kind → ℕ → ℕ
arch_offset kind.Fat i = 8 + 20 * i
arch_offset kind.Fat64 i = 8 + 32 * i

-- Entry i.
unfoldable pub arch_at : List ℕ → Kind → ℕ → Part
arch_at file kind.Fat i = fat_arch file (arch_offset kind.Fat i)
arch_at file kind.Fat64 i = fat_arch64 file (arch_offset kind.Fat64 i)

-- 16, of the table: it lies in the file.
unfoldable pub table_fits : List ℕ → Kind → Bool
table_fits file k = leb (arch_offset k (nfat_arch file)) (length file)
