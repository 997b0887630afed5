-- The structs of loader.h that are read here: their fields, by the offset of each, and their sizes. `cmds` is the bytes of the load
-- commands, a where a command stands in them, b where a section header does.
use Rattle.std.specs.Prelude.{ℕ, ◌+◌, ◌*◌, List}
use Rattle.reads.specs.Place.{part}
use Rattle.macho.specs.Number.{u32_at, u64_at}

-- mach_header_64: 32 bytes; magic +0, ncmds +16, sizeofcmds +20.
abbrev pub magic : List ℕ → ℕ
magic file = u32_at file 0

abbrev pub ncmds : List ℕ → ℕ
ncmds file = u32_at file 16

abbrev pub sizeofcmds : List ℕ → ℕ
sizeofcmds file = u32_at file 20

-- load_command: 8 bytes; cmd +0, cmdsize +4.
abbrev pub cmd : List ℕ → ℕ → ℕ
cmd cmds a = u32_at cmds (a + 0)

abbrev pub cmdsize : List ℕ → ℕ → ℕ
cmdsize cmds a = u32_at cmds (a + 4)

-- segment_command_64, LC_SEGMENT_64: 72 bytes; segname +8, vmaddr +24, vmsize +32, fileoff +40, filesize +48, nsects +64. Its section
-- headers follow it.
abbrev pub segment_kind : ℕ
segment_kind = 0x19

abbrev pub vmaddr : List ℕ → ℕ → ℕ
vmaddr cmds a = u64_at cmds (a + 24)

abbrev pub vmsize : List ℕ → ℕ → ℕ
vmsize cmds a = u64_at cmds (a + 32)

abbrev pub fileoff : List ℕ → ℕ → ℕ
fileoff cmds a = u64_at cmds (a + 40)

abbrev pub filesize : List ℕ → ℕ → ℕ
filesize cmds a = u64_at cmds (a + 48)

abbrev pub nsects : List ℕ → ℕ → ℕ
nsects cmds a = u32_at cmds (a + 64)

-- The size of a segment command with its section headers.
abbrev pub size_with_sections : ℕ → ℕ
size_with_sections n = 72 + 80 * n

-- section_64: 80 bytes; sectname +0, addr +32, size +40, offset +48.
abbrev pub addr : List ℕ → ℕ → ℕ
addr cmds b = u64_at cmds (b + 32)

abbrev pub size : List ℕ → ℕ → ℕ
size cmds b = u64_at cmds (b + 40)

abbrev pub offset : List ℕ → ℕ → ℕ
offset cmds b = u32_at cmds (b + 48)

-- A segment's and a section's name, of 16 bytes, at an offset: segname +8, sectname +0.
abbrev pub name_at : List ℕ → ℕ → List ℕ
name_at cmds at = part cmds at 16
