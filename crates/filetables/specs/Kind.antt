-- Question 25 (loader.h): the kinds of file that are read, and whole. Of a file of another kind, or one that was cut, rows or names would be missed
-- in silence.
use Rattle.std.specs.Prelude.{ℕ, ◌+◌, ◌/◌, ◌%◌, ◌^◌, Bool, true, ◌&&◌, ◌||◌, List, [], ◌∷◌, ltb, leb, eqb, length}
use Rattle.reads.specs.Outcome.{Outcome, and_then, choose}
use Rattle.pointers.specs.Question.{question}
use Rattle.macho.specs.Number.{u32_at}
use Rattle.macho.specs.Loader.{ncmds, segment_kind, fileoff, filesize}
use Rattle.macho.specs.Commands.{command_bytes, asked_commands, of_kind}
use Rattle.fixups.specs.FixupChains.{chained_fixups_kind}
use Rattle.opcodes.specs.DyldInfo.{dyld_info_kind, dyld_info_only_kind, bind_off, weak_bind_off, lazy_bind_off, stream_off, stream_size}
use Rattle.reads.specs.declared.answer.Question.TheVariants.{FileKind}

-- mach_header_64: filetype +12, flags +24.
abbrev pub filetype : List ℕ → ℕ
filetype file = u32_at file 12

abbrev pub flags : List ℕ → ℕ
flags file = u32_at file 24

-- MH_EXECUTE, MH_DYLIB, MH_DYLINKER, MH_BUNDLE.
unfoldable pub type_read : ℕ → Bool
type_read t = eqb t 2 || (eqb t 6 || (eqb t 7 || eqb t 8))

-- A segment's part of the file lies in the file, of n bytes, and is not encrypted (flags +68, SG_PROTECTED_VERSION_1 0x8).
unfoldable pub segment_read : ℕ → List ℕ → ℕ → Bool
segment_read n cmds a = leb (fileoff cmds a + filesize cmds a) n && eqb (u32_at cmds (a + 68) / 8 % 2) 0

-- A stream of bind opcodes lies in the file.
unfoldable pub stream_read : ℕ → List ℕ → ℕ → ℕ → Bool
stream_read n cmds a field = leb (stream_off cmds a field + stream_size cmds a field) n

-- dyld_info_command: each of its streams does.
unfoldable pub info_read : ℕ → List ℕ → ℕ → Bool
info_read n cmds a = stream_read n cmds a bind_off && (stream_read n cmds a weak_bind_off && stream_read n cmds a lazy_bind_off)

-- The command at a, of a kind, in a file of n bytes: nothing is bound by relocations (LC_DYSYMTAB, nextrel +68), nothing is encrypted
-- (LC_ENCRYPTION_INFO and LC_ENCRYPTION_INFO_64, cryptid +16); any other is a dyld_info_command.
unfoldable pub command_read : ℕ → List ℕ → ℕ → ℕ → Bool
command_read n cmds kind a =
    choose (eqb kind segment_kind) (segment_read n cmds a)
    (choose (eqb kind 0xB) (eqb (u32_at cmds (a + 68)) 0)
    (choose (eqb kind 0x21) (eqb (u32_at cmds (a + 16)) 0)
    (choose (eqb kind 0x2C) (eqb (u32_at cmds (a + 16)) 0)
    (info_read n cmds a))))

-- The same of each command that stands at the offsets given.
unfoldable pub all_read : ℕ → List ℕ → ℕ → List ℕ → Bool
all_read n cmds kind [] = true
all_read n cmds kind (a ∷ others) = command_read n cmds kind a && all_read n cmds kind others

-- The same of all commands of a kind.
abbrev pub kind_read : ℕ → List ℕ → ℕ → ℕ → Bool
kind_read n cmds count kind = all_read n cmds kind (of_kind kind cmds count 0)

-- The commands that say what is bound: LC_DYLD_CHAINED_FIXUPS, LC_DYLD_INFO, LC_DYLD_INFO_ONLY.
unfoldable pub carriers : List ℕ → ℕ → ℕ
carriers cmds count =
    length (of_kind chained_fixups_kind cmds count 0) + length (of_kind dyld_info_kind cmds count 0) + length (of_kind dyld_info_only_kind cmds count 0)

-- The commands of a file of n bytes: those above, and at most one that says what is bound.
unfoldable pub commands_read : ℕ → List ℕ → ℕ → Bool
commands_read n cmds count =
    kind_read n cmds count segment_kind
    && (kind_read n cmds count 0xB
    && (kind_read n cmds count 0x21
    && (kind_read n cmds count 0x2C
    && (kind_read n cmds count dyld_info_kind
    && (kind_read n cmds count dyld_info_only_kind
    && leb (carriers cmds count) 1)))))

-- 25: a file that dyld loads by itself, not one of a shared cache (MH_DYLIB_IN_CACHE, the flag 2^31), whose commands are read.
unfoldable pub is_read : List ℕ → Bool
is_read file = type_read (filetype file) && (ltb (flags file) (2 ^ 31) && commands_read (length file) (command_bytes file) (ncmds file))

-- 15 and 16, then 25.
unfoldable pub asked_kind : List ℕ → Outcome (Unit {0})
asked_kind file = and_then (asked_commands file) (λ _. question FileKind (is_read file))
