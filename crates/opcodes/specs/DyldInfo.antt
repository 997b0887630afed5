-- dyld_info_command (loader.h), 48 bytes: its streams of bind opcodes, by the offset of the two fields of each.
use Rattle.std.specs.Prelude.{ℕ, ◌+◌, List, min, slice_get, Option, None, Some}
use Rattle.macho.specs.Number.{u32_at}
use Rattle.macho.specs.Commands.{of_kind}

-- LC_DYLD_INFO and LC_DYLD_INFO_ONLY.
abbrev pub dyld_info_kind : ℕ
dyld_info_kind = 0x22

abbrev pub dyld_info_only_kind : ℕ
dyld_info_only_kind = 0x80000022

-- bind_off +16, weak_bind_off +24, lazy_bind_off +32.
abbrev pub bind_off : ℕ
bind_off = 16

abbrev pub weak_bind_off : ℕ
weak_bind_off = 24

abbrev pub lazy_bind_off : ℕ
lazy_bind_off = 32

-- The offset of a stream in the file, and, 4 bytes further, its size.
abbrev pub stream_off : List ℕ → ℕ → ℕ → ℕ
stream_off cmds a field = u32_at cmds (a + field)

abbrev pub stream_size : List ℕ → ℕ → ℕ → ℕ
stream_size cmds a field = u32_at cmds (a + (field + 4))

-- Where the one of two commands stands that is there and stands first.
unfoldable pub earlier : Option ℕ → Option ℕ → Option ℕ
earlier None y = y
earlier (Some a) None = Some a
earlier (Some a) (Some b) = Some (min a b)

-- Where the first command of either kind stands.
abbrev pub first_info : List ℕ → ℕ → Option ℕ
first_info cmds count = earlier (slice_get (of_kind dyld_info_kind cmds count 0) 0) (slice_get (of_kind dyld_info_only_kind cmds count 0) 0)
