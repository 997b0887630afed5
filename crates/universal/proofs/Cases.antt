-- Worked cases: thin and universal files of at most 80 bytes, and broken ones.
use Prim.Native.Nat.{ℕ, ◌/◌, ◌%◌, ◌^◌}
use mathlib.Core.Path.{◌≡◌, refl}
use mathlib.Core.List.{List, [], ◌∷◌, ◌++◌}
use lib.ListN.{take, replicate}
use Rattle.reads.specs.Outcome.{choose}
use Rattle.reads.specs.Place.{le, le_in}
use Rattle.universal.specs.Number.{be_in}
use Rattle.universal.specs.Fat.{kind_of, part_of, arch_in, arch_at, table_fits}
use Rattle.universal.specs.Architecture.{arch_of, arm64, is_arch, is_abi64, first_arch, chosen}
use Rattle.universal.specs.Parts.{thin_wanted, in_file, fat_wanted, part_wanted, fat_at, part_at}
use Rattle.universal.specs.declared.arch.Arch.{Arch}
use Rattle.std.specs.Prelude.{Option, None, Some, Result, Ok, Err}
use Rattle.reads.specs.declared.answer.Question.{Question}
use Rattle.universal.specs.declared.fat.Part.{Part}
use Rattle.reads.specs.declared.answer.Question.TheVariants.{LoadCommands}

-- machine.h: CPU_TYPE_I386, CPU_TYPE_X86_64, CPU_TYPE_ARM64.
abbrev cpu_i386 : ℕ
cpu_i386 = 7

abbrev cpu_x86_64 : ℕ
cpu_x86_64 = 0x01000007

abbrev cpu_arm64 : ℕ
cpu_arm64 = 0x0100000C

abbrev arm64e : Arch
arm64e = arch_of cpu_arm64 2

abbrev default : List ℕ → Result (Option Part) Question
default file = part_wanted file None

abbrev named : Arch → List ℕ → Result (Option Part) Question
named a file = part_wanted file (Some a)

-- A number in big-endian order.
abbrev u32 : ℕ → List ℕ
u32 n = n / 2 ^ 24 % 256 ∷ n / 2 ^ 16 % 256 ∷ n / 256 % 256 ∷ n % 256 ∷ []

-- fat_arch and fat_arch_64, aligned to 2^2.
abbrev entry : ℕ → ℕ → ℕ → ℕ → List ℕ
entry cputype cpusubtype offset size = u32 cputype ++ u32 cpusubtype ++ u32 offset ++ u32 size ++ u32 2

abbrev entry64 : ℕ → ℕ → ℕ → ℕ → List ℕ
entry64 cputype cpusubtype offset size =
    u32 cputype ++ u32 cpusubtype ++ u32 0 ++ u32 offset ++ u32 0 ++ u32 size ++ u32 2 ++ u32 0

-- Some entries and 8 bytes after them, with an nfat_arch.
abbrev fat : ℕ → List ℕ → List ℕ
fat count entries = u32 0xCAFEBABE ++ u32 count ++ entries ++ replicate 8 1

abbrev fat64 : ℕ → List ℕ → List ℕ
fat64 count entries = u32 0xCAFEBABF ++ u32 count ++ entries ++ replicate 8 1

-- mach_header_64 up to cpusubtype: arm64.
abbrev thin : List ℕ
thin = 0xCF ∷ 0xFA ∷ 0xED ∷ 0xFE ∷ 0x0C ∷ 0 ∷ 0 ∷ 1 ∷ 0 ∷ 0 ∷ 0 ∷ 0 ∷ []

pub record Thin : Type 0 where
  pub whole : default thin ≡ Ok (Some (part_of cpu_arm64 0 0 12))
  pub same : named arm64 thin ≡ Ok (Some (part_of cpu_arm64 0 0 12))
  pub other : named arm64e thin ≡ Ok None
  -- Opening gives 15 of what has no 64-bit header, whatever is wanted.
  pub no_header : named arm64 (1 ∷ 2 ∷ 3 ∷ []) ≡ Ok (Some (part_of 0 0 0 3))
  pub none : default [] ≡ Ok (Some (part_of 0 0 0 0))
  pub told : part_at thin 0 ≡ Ok (Some (part_of cpu_arm64 0 0 12))
  pub told_once : part_at thin 1 ≡ Ok None

-- x86_64 with CPU_SUBTYPE_LIB64, then arm64.
abbrev two : List ℕ
two = fat 2 (entry cpu_x86_64 0x80000003 48 4 ++ entry cpu_arm64 0 52 4)

pub record Two : Type 0 where
  pub arm64_second : default two ≡ Ok (Some (part_of cpu_arm64 0 52 4))
  pub wanted_first : named (arch_of cpu_x86_64 3) two ≡ Ok (Some (part_of cpu_x86_64 0x80000003 48 4))
  pub any_subtype : named (arch_of cpu_x86_64 0xFFFFFFFF) two ≡ Ok (Some (part_of cpu_x86_64 0x80000003 48 4))
  pub not_there : named arm64e two ≡ Ok None
  pub told_0 : part_at two 0 ≡ Ok (Some (part_of cpu_x86_64 0x80000003 48 4))
  pub told_1 : part_at two 1 ≡ Ok (Some (part_of cpu_arm64 0 52 4))
  pub told_all : part_at two 2 ≡ Ok None
  -- The file cut by one byte: the second part is not whole.
  pub part_cut : default (take 55 two) ≡ Err LoadCommands
  pub other_whole : named (arch_of cpu_x86_64 3) (take 55 two) ≡ Ok (Some (part_of cpu_x86_64 0x80000003 48 4))
  pub cut_told : part_at (take 55 two) 1 ≡ Ok (Some (part_of cpu_arm64 0 52 4))
  pub table_cut : default (take 47 two) ≡ Err LoadCommands
  pub table_cut_told : part_at (take 47 two) 0 ≡ Err LoadCommands
  pub header_cut : default (take 7 two) ≡ Err LoadCommands

pub record Others : Type 0 where
  pub no_arm64 : default (fat 2 (entry cpu_i386 3 48 4 ++ entry cpu_x86_64 3 52 4)) ≡ Ok (Some (part_of cpu_x86_64 3 52 4))
  pub no_64 : default (fat 1 (entry cpu_i386 3 28 4)) ≡ Ok None
  -- arm64e, with its capability bits, is another architecture than arm64.
  pub arm64e_not_arm64 : default (fat 2 (entry cpu_x86_64 3 48 4 ++ entry cpu_arm64 0x80000002 52 4)) ≡ Ok (Some (part_of cpu_x86_64 3 48 4))
  pub arm64e_wanted : named arm64e (fat 2 (entry cpu_arm64 0 48 4 ++ entry cpu_arm64 0x80000002 52 4)) ≡ Ok (Some (part_of cpu_arm64 0x80000002 52 4))
  pub arm64e_alone : default (fat 1 (entry cpu_arm64 0x80000002 28 4)) ≡ Ok (Some (part_of cpu_arm64 0x80000002 28 4))
  -- Of two of one architecture the first.
  pub first : default (fat 2 (entry cpu_arm64 0 48 4 ++ entry cpu_arm64 0 52 4)) ≡ Ok (Some (part_of cpu_arm64 0 48 4))
  pub wide : default (fat64 2 (entry64 cpu_x86_64 3 72 4 ++ entry64 cpu_arm64 0 76 4)) ≡ Ok (Some (part_of cpu_arm64 0 76 4))
  pub wide_cut : default (take 79 (fat64 2 (entry64 cpu_x86_64 3 72 4 ++ entry64 cpu_arm64 0 76 4))) ≡ Err LoadCommands
  pub wide_table_cut : default (take 71 (fat64 2 (entry64 cpu_x86_64 3 72 4 ++ entry64 cpu_arm64 0 76 4))) ≡ Err LoadCommands
  -- The sum of offset and size is no sum modulo 2^32.
  pub far : default (fat 1 (entry cpu_arm64 0 0xFFFFFFFF 1)) ≡ Err LoadCommands
  pub entries_past_end : default (fat 2 (entry cpu_arm64 0 28 4)) ≡ Err LoadCommands
  pub no_entries : default (fat 0 []) ≡ Ok None
  pub no_entries_told : part_at (fat 0 []) 0 ≡ Ok None

thin_cases : Thin
unfolding part_wanted part_at kind_of be_in le_in le choose thin_wanted is_arch
thin_cases = record { whole = refl; same = refl; other = refl; no_header = refl; none = refl; told = refl; told_once = refl }

two_cases : Two
unfolding part_wanted part_at kind_of be_in le_in le choose fat_wanted fat_at table_fits chosen first_arch is_abi64 is_arch arch_at arch_in in_file
two_cases =
    record {
      arm64_second = refl;
      wanted_first = refl;
      any_subtype = refl;
      not_there = refl;
      told_0 = refl;
      told_1 = refl;
      told_all = refl;
      part_cut = refl;
      other_whole = refl;
      cut_told = refl;
      table_cut = refl;
      table_cut_told = refl;
      header_cut = refl;
    }

other_cases : Others
unfolding part_wanted part_at kind_of be_in le_in le choose fat_wanted fat_at table_fits chosen first_arch is_abi64 is_arch arch_at arch_in in_file
other_cases =
    record {
      no_arm64 = refl;
      no_64 = refl;
      arm64e_not_arm64 = refl;
      arm64e_wanted = refl;
      arm64e_alone = refl;
      first = refl;
      wide = refl;
      wide_cut = refl;
      wide_table_cut = refl;
      far = refl;
      entries_past_end = refl;
      no_entries = refl;
      no_entries_told = refl;
    }
