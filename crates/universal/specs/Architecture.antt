-- Architectures (machine.h), and the entry of a universal file's table that is looked for.
use Rattle.std.specs.Prelude.{ℕ, zero, suc, ◌+◌, ◌/◌, ◌%◌, ◌^◌, Bool, ◌&&◌, ◌||◌, List, eqb, Option, None, Some}
use Rattle.reads.specs.Outcome.{choose}
use Rattle.universal.specs.Fat.{arch_at}
use Rattle.universal.specs.declared.fat.Part.{Part}
use Rattle.universal.specs.declared.fat.Kind.{Kind}
use Rattle.universal.specs.declared.arch.Arch.{Arch}

abbrev pub arch_of : ℕ → ℕ → Arch
arch_of cputype cpusubtype = record { cputype = cputype; cpusubtype = cpusubtype }

-- CPU_TYPE_ARM64, CPU_SUBTYPE_ARM64_ALL.
abbrev pub arm64 : Arch
arm64 = arch_of 0x0100000C 0

-- A part is of an architecture: the same cputype; and the wanted cpusubtype is any (CPU_SUBTYPE_ANY), or the part's without the top byte of
-- both, the capability bits (CPU_SUBTYPE_MASK).
unfoldable pub is_arch : Arch → Part → Bool
is_arch a p =
    eqb p.cputype a.cputype && (eqb a.cpusubtype 0xFFFFFFFF || eqb (p.cpusubtype % 2 ^ 24) (a.cpusubtype % 2 ^ 24))

-- A 64-bit part: bit 24 of the cputype, CPU_ARCH_ABI64, is set.
unfoldable pub is_abi64 : Part → Bool
is_abi64 p = eqb (p.cputype / 2 ^ 24 % 2) 1

-- The first of the k entries from number i on that passes a test, if one does.
unfoldable pub first_arch : List ℕ → Kind → (Part → Bool) → ℕ → ℕ → Option ℕ
first_arch file kind test zero i = None
first_arch file kind test (suc k) i = choose (test (arch_at file kind i)) (Some i) (first_arch file kind test k (i + 1))

-- An entry, without it another.
abbrev pub without : Option ℕ → Option ℕ → Option ℕ
without None other = other
without (Some i) other = Some i

-- The entry that is wanted, of `count` entries: the first of an architecture; or the first of arm64, without it the first 64-bit one.
unfoldable pub chosen : List ℕ → Kind → ℕ → Option Arch → Option ℕ
chosen file kind count (Some a) = first_arch file kind (is_arch a) count 0
chosen file kind count None =
    without (first_arch file kind (is_arch arm64) count 0) (first_arch file kind is_abi64 count 0)
