-- The structs of fixup-chains.h that are read here: their fields, by the offset of each. `body` is the fixup data, the bytes that an
-- LC_DYLD_CHAINED_FIXUPS names, cut at the file's end.
use Rattle.std.specs.Prelude.{ℕ, ◌+◌, ◌*◌, Bool, List, length, nat_le}
use Rattle.macho.specs.Number.{u16_at, u32_at}

-- linkedit_data_command (loader.h), 16 bytes: dataoff +8, datasize +12.
abbrev pub chained_fixups_kind : ℕ
chained_fixups_kind = 0x80000034

abbrev pub dataoff : List ℕ → ℕ → ℕ
dataoff cmds a = u32_at cmds (a + 8)

abbrev pub datasize : List ℕ → ℕ → ℕ
datasize cmds a = u32_at cmds (a + 12)

-- k bytes at an offset lie in the bytes.
abbrev pub lies : List ℕ → ℕ → ℕ → Bool
lies bytes at k = nat_le (at + k) (length bytes)

-- dyld_chained_fixups_header, 28 bytes: starts_offset +4, imports_offset +8, symbols_offset +12, imports_count +16, imports_format +20,
-- symbols_format +24.
abbrev pub starts_offset : List ℕ → ℕ
starts_offset body = u32_at body 4

abbrev pub imports_offset : List ℕ → ℕ
imports_offset body = u32_at body 8

abbrev pub symbols_offset : List ℕ → ℕ
symbols_offset body = u32_at body 12

abbrev pub imports_count : List ℕ → ℕ
imports_count body = u32_at body 16

abbrev pub imports_format : List ℕ → ℕ
imports_format body = u32_at body 20

abbrev pub symbols_format : List ℕ → ℕ
symbols_format body = u32_at body 24

-- dyld_chained_starts_in_image, at an offset: seg_count +0, seg_info_offset +4, 4 bytes each.
abbrev pub seg_count : List ℕ → ℕ → ℕ
seg_count body at = u32_at body (at + 0)

abbrev pub seg_info_offset : List ℕ → ℕ → ℕ → ℕ
seg_info_offset body at i = u32_at body (at + 4 + 4 * i)

-- dyld_chained_starts_in_segment, at an offset: page_size +4, pointer_format +6, page_count +20, page_start +22, 2 bytes each.
abbrev pub page_size : List ℕ → ℕ → ℕ
page_size body at = u16_at body (at + 4)

abbrev pub pointer_format : List ℕ → ℕ → ℕ
pointer_format body at = u16_at body (at + 6)

abbrev pub page_count : List ℕ → ℕ → ℕ
page_count body at = u16_at body (at + 20)

abbrev pub page_start : List ℕ → ℕ → ℕ → ℕ
page_start body at p = u16_at body (at + 22 + 2 * p)

-- dyld_chained_import i, 4 bytes each from an offset: lib_ordinal 8 bits, weak_import 1, name_offset 23.
abbrev pub import_word : List ℕ → ℕ → ℕ → ℕ
import_word body at i = u32_at body (at + 4 * i)
