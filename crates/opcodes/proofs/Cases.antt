-- A file of 176 bytes and its streams, computed: one segment at 0x1000 with 24 bytes of the file, from 152 on, and an LC_DYLD_INFO_ONLY.
use Rattle.std.proofs.Common.{◌≡◌, ℕ, ◌+◌, List, [], ◌∷◌, ◌++◌, length, take, set, replicate, refl}
use Rattle.reads.specs.Outcome.{Outcome, value, refused, choose}
use Rattle.reads.specs.Place.{le, le_in}
use Rattle.reads.specs.Signed.{twos}
use Rattle.reads.specs.Leb128.{digit_count, unsigned_digits, negative, signed_digits, within64, within_signed64, uleb_of, sleb_of, uleb128, sleb128}
use Rattle.pointers.specs.Question.{question}
use Rattle.macho.specs.Commands.{headed, sectioned, fits, all_fit, asked_commands, of_kind}
use Rattle.macho.specs.Segments.{written}
use Rattle.fixups.specs.Imports.{bound_slot, name_of, zero_from}
use Rattle.fixups.specs.Tables.{rows_of}
use Rattle.opcodes.specs.DyldInfo.{earlier}
use Rattle.opcodes.specs.Opcodes.{opcode_of, with_number, typed, symbol_at, addend, skipping, times_skipping, by_opcode, decode}
use Rattle.opcodes.specs.Binding.{bound_by, run, in_segment, perform}
use Rattle.opcodes.specs.Streams.{walk, stream_at, joined, streams_at}
use Rattle.opcodes.specs.Binds.{binds_from, binds_in, binds_found, leaves, settled}
use Rattle.fixups.specs.declared.name.Bound.{Bound}
use Rattle.reads.specs.declared.answer.Question.TheVariants.{BindTable, Header, LoadCommands, FixupData, FixupSlot}

abbrev zeros : ℕ → List ℕ
zeros n = replicate n 0

-- mach_header_64, the segment, then the command with the offset and size of each stream.
abbrev file : List ℕ → List ℕ → List ℕ → List ℕ
file strong weak lazy =
    207 ∷ 250 ∷ 237 ∷ 254 ∷ 12 ∷ 0 ∷ 0 ∷ 1 ∷ 0 ∷ 0 ∷ 0 ∷ 0 ∷ 2 ∷ 0 ∷ 0 ∷ 0 ∷ 2 ∷ 0 ∷ 0 ∷ 0 ∷ 120 ∷ 0 ∷ 0 ∷ 0 ∷ 0 ∷ 0 ∷ 0 ∷ 0 ∷ 0 ∷ 0 ∷ 0 ∷ 0
    ∷ 25 ∷ 0 ∷ 0 ∷ 0 ∷ 72 ∷ 0 ∷ 0 ∷ 0 ∷ 95 ∷ 95 ∷ 68 ∷ 65 ∷ 84 ∷ 65 ∷ 0 ∷ 0 ∷ 0 ∷ 0 ∷ 0 ∷ 0 ∷ 0 ∷ 0 ∷ 0 ∷ 0
    ∷ 0 ∷ 16 ∷ 0 ∷ 0 ∷ 0 ∷ 0 ∷ 0 ∷ 0 ∷ 0 ∷ 16 ∷ 0 ∷ 0 ∷ 0 ∷ 0 ∷ 0 ∷ 0 ∷ 152 ∷ 0 ∷ 0 ∷ 0 ∷ 0 ∷ 0 ∷ 0 ∷ 0 ∷ 24 ∷ 0 ∷ 0 ∷ 0 ∷ 0 ∷ 0 ∷ 0 ∷ 0
    ∷ 3 ∷ 0 ∷ 0 ∷ 0 ∷ 3 ∷ 0 ∷ 0 ∷ 0 ∷ 0 ∷ 0 ∷ 0 ∷ 0 ∷ 0 ∷ 0 ∷ 0 ∷ 0
    ∷ 34 ∷ 0 ∷ 0 ∷ 128 ∷ 48 ∷ 0 ∷ 0 ∷ 0 ∷ 0 ∷ 0 ∷ 0 ∷ 0 ∷ 0 ∷ 0 ∷ 0 ∷ 0 ∷ 176 ∷ 0 ∷ 0 ∷ 0 ∷ length strong ∷ 0 ∷ 0 ∷ 0
    ∷ (176 + length strong) ∷ 0 ∷ 0 ∷ 0 ∷ length weak ∷ 0 ∷ 0 ∷ 0 ∷ (176 + length strong + length weak) ∷ 0 ∷ 0 ∷ 0 ∷ length lazy ∷ 0 ∷ 0 ∷ 0
    ∷ 0 ∷ 0 ∷ 0 ∷ 0 ∷ 0 ∷ 0 ∷ 0 ∷ 0 ∷ (zeros 24 ++ (strong ++ (weak ++ lazy)))

abbrev binds : List ℕ → Outcome (List Bound)
binds strong = binds_found (file strong [] [])

-- SET_SYMBOL_TRAILING_FLAGS_IMM `_a`, then SET_SEGMENT_AND_OFFSET_ULEB of segment 0.
abbrev from : ℕ → List ℕ → List ℕ
from offset ops = 0x40 ∷ 95 ∷ 97 ∷ 0 ∷ 0x70 ∷ offset ∷ ops

-- Its name in the strong stream.
abbrev bind_at : ℕ → Bound
bind_at slot = bound_slot slot (name_of 177 2)

-- 2^64 - 16 and 2^64 - 8 in ULEB128.
abbrev minus16 : List ℕ
minus16 = 0xF0 ∷ 0xFF ∷ 0xFF ∷ 0xFF ∷ 0xFF ∷ 0xFF ∷ 0xFF ∷ 0xFF ∷ 0xFF ∷ 1 ∷ []

abbrev minus8 : List ℕ
minus8 = 0xF8 ∷ 0xFF ∷ 0xFF ∷ 0xFF ∷ 0xFF ∷ 0xFF ∷ 0xFF ∷ 0xFF ∷ 0xFF ∷ 1 ∷ []

-- Each opcode.
pub record Opcodes : Type 0 where
  pub do_bind : binds (from 0 (0x90 ∷ 0x90 ∷ [])) ≡ value (bind_at 0x1000 ∷ bind_at 0x1008 ∷ [])
  pub passed_over : binds (0x11 ∷ 0x20 ∷ 0x85 ∷ 1 ∷ 0x3E ∷ 0x51 ∷ 0x60 ∷ 0x7F ∷ from 0 (0x90 ∷ [])) ≡ value (bound_slot 0x1000 (name_of 185 2) ∷ [])
  pub add_addr : binds (from 0 (0x80 ∷ 16 ∷ 0x90 ∷ [])) ≡ value (bind_at 0x1010 ∷ [])
  pub add_addr_wraps : binds (from 16 (0x80 ∷ (minus16 ++ (0x90 ∷ [])))) ≡ value (bind_at 0x1000 ∷ [])
  pub bind_add_addr : binds (from 0 (0xA0 ∷ 8 ∷ 0x90 ∷ [])) ≡ value (bind_at 0x1000 ∷ bind_at 0x1010 ∷ [])
  pub bind_add_scaled : binds (from 0 (0xB1 ∷ 0x90 ∷ [])) ≡ value (bind_at 0x1000 ∷ bind_at 0x1010 ∷ [])
  pub times_skipping_lem : binds (from 0 (0xC0 ∷ 2 ∷ 8 ∷ [])) ≡ value (bind_at 0x1000 ∷ bind_at 0x1010 ∷ [])
  pub times_none : binds (0xC0 ∷ 0 ∷ 8 ∷ []) ≡ value []
  pub name_set_again : binds (from 0 (0x90 ∷ 0x40 ∷ 98 ∷ 0 ∷ 0x90 ∷ [])) ≡ value (bind_at 0x1000 ∷ bound_slot 0x1008 (name_of 184 1) ∷ [])
  pub last_slot : binds (from 16 (0x90 ∷ [])) ≡ value (bind_at 0x1010 ∷ [])

-- The streams: DONE ends the strong and the weak one and parts the lazy one; their order; a stream cut at the file's end.
pub record Streams : Type 0 where
  pub done_ends : binds (from 0 (0x90 ∷ 0 ∷ 0x90 ∷ [])) ≡ value (bind_at 0x1000 ∷ [])
  pub done_ends_weak : binds_found (file [] (from 0 (0x90 ∷ 0 ∷ 0x90 ∷ [])) []) ≡ value (bind_at 0x1000 ∷ [])
  pub done_parts_lazy : binds_found (file [] [] (from 0 (0x90 ∷ 0 ∷ 0x90 ∷ []))) ≡ value (bind_at 0x1000 ∷ bind_at 0x1008 ∷ [])
  pub in_order : binds_found (file (from 0 (0x90 ∷ [])) (from 0 (0x90 ∷ [])) (from 8 (0x90 ∷ [])))
      ≡ value (bound_slot 0x1000 (name_of 177 2) ∷ bound_slot 0x1000 (name_of 184 2) ∷ bound_slot 0x1008 (name_of 191 2) ∷ [])
  pub cut_at_end : binds_found (take 183 (file (from 0 (0x90 ∷ 0xE0 ∷ [])) [] [])) ≡ value (bind_at 0x1000 ∷ [])
  pub no_command : binds_found (set (file (0xE0 ∷ []) [] []) 104 35) ≡ value []
  pub dyld_info : binds_found (set (file (from 0 (0x90 ∷ [])) [] []) 107 0) ≡ value (bind_at 0x1000 ∷ [])

-- Numbers.
pub record Refused : Type 0 where
  pub other_magic : binds_found (set (file [] [] []) 0 0) ≡ refused Header
  pub third_command : binds_found (set (file [] [] []) 16 3) ≡ refused LoadCommands
  pub short_command : binds_found (set (file [] [] []) 108 40) ≡ refused FixupData
  pub unknown_opcode : binds (0xE0 ∷ []) ≡ refused FixupData
  pub threaded : binds (0xD0 ∷ 1 ∷ []) ≡ refused FixupData
  pub other_type : binds (0x52 ∷ []) ≡ refused FixupData
  pub number_open : binds (0x80 ∷ 0x80 ∷ []) ≡ refused FixupData
  pub number_of_65_bits : binds (0x80 ∷ 0x80 ∷ 0x80 ∷ 0x80 ∷ 0x80 ∷ 0x80 ∷ 0x80 ∷ 0x80 ∷ 0x80 ∷ 0x80 ∷ 2 ∷ []) ≡ refused FixupData
  pub addend_open : binds (0x60 ∷ []) ≡ refused FixupData
  pub name_open : binds (0x40 ∷ 95 ∷ []) ≡ refused FixupData
  pub no_segment : binds (0x71 ∷ 0 ∷ []) ≡ refused FixupData
  pub bind_without_name : binds (0x70 ∷ 0 ∷ 0x90 ∷ []) ≡ refused FixupData
  pub bind_without_segment : binds (0x40 ∷ 95 ∷ 0 ∷ 0x90 ∷ []) ≡ refused FixupData
  pub past_segment : binds (from 17 (0x90 ∷ [])) ≡ refused FixupSlot
  pub past_file : binds_found (set (file (from 30 (0x90 ∷ [])) [] []) 80 255) ≡ refused FixupSlot
  pub run_past_segment : binds (from 0 (0xC0 ∷ (minus8 ++ (0 ∷ [])))) ≡ refused FixupSlot
  pub run_in_place : binds (from 0 (0xC0 ∷ 2 ∷ minus8)) ≡ refused FixupSlot
  pub read_before_bound : binds (from 17 (0xA0 ∷ 0x80 ∷ [])) ≡ refused FixupData
  pub later_stream : binds_found (file (from 0 (0x90 ∷ [])) [] (0xE0 ∷ [])) ≡ refused FixupData

-- The table: two binds need eight words.
pub record Table : Type 0 where
  pub filled : settled (binds (from 0 (0x90 ∷ 0x90 ∷ []))) (replicate 9 7)
      ≡ leaves (value 2) (0x1000 ∷ 177 ∷ 2 ∷ 0 ∷ 0x1008 ∷ 177 ∷ 2 ∷ 0 ∷ 7 ∷ [])
  pub too_short : settled (binds (from 0 (0x90 ∷ 0x90 ∷ []))) (replicate 7 7) ≡ leaves (refused BindTable) (replicate 7 7)
  pub refusing : settled (binds (from 0 (0x90 ∷ 0xE0 ∷ []))) (replicate 9 7) ≡ leaves (refused FixupData) (replicate 9 7)

pub opcodes_read : Opcodes
unfolding le le_in choose twos digit_count unsigned_digits negative signed_digits within64 within_signed64 uleb_of sleb_of uleb128 sleb128 question headed sectioned fits all_fit asked_commands of_kind zero_from earlier opcode_of with_number typed symbol_at addend skipping times_skipping by_opcode decode bound_by run in_segment perform walk stream_at joined streams_at binds_from binds_in binds_found
opcodes_read = record { do_bind = refl; passed_over = refl; add_addr = refl; add_addr_wraps = refl; bind_add_addr = refl; bind_add_scaled = refl; times_skipping_lem = refl; times_none = refl; name_set_again = refl; last_slot = refl }

pub streams_read : Streams
unfolding le le_in choose twos digit_count unsigned_digits negative signed_digits within64 within_signed64 uleb_of sleb_of uleb128 sleb128 question headed sectioned fits all_fit asked_commands of_kind zero_from earlier opcode_of with_number typed symbol_at addend skipping times_skipping by_opcode decode bound_by run in_segment perform walk stream_at joined streams_at binds_from binds_in binds_found
streams_read = record { done_ends = refl; done_ends_weak = refl; done_parts_lazy = refl; in_order = refl; cut_at_end = refl; no_command = refl; dyld_info = refl }

pub refusals : Refused
unfolding le le_in choose twos digit_count unsigned_digits negative signed_digits within64 within_signed64 uleb_of sleb_of uleb128 sleb128 question headed sectioned fits all_fit asked_commands of_kind zero_from earlier opcode_of with_number typed symbol_at addend skipping times_skipping by_opcode decode bound_by run in_segment perform walk stream_at joined streams_at binds_from binds_in binds_found
refusals = record { other_magic = refl; third_command = refl; short_command = refl; unknown_opcode = refl; threaded = refl; other_type = refl; number_open = refl; number_of_65_bits = refl; addend_open = refl; name_open = refl; no_segment = refl; bind_without_name = refl; bind_without_segment = refl; past_segment = refl; past_file = refl; run_past_segment = refl; run_in_place = refl; read_before_bound = refl; later_stream = refl }

pub tables : Table
unfolding le le_in choose twos digit_count unsigned_digits negative signed_digits within64 within_signed64 uleb_of sleb_of uleb128 sleb128 question headed sectioned fits all_fit asked_commands of_kind zero_from earlier opcode_of with_number typed symbol_at addend skipping times_skipping by_opcode decode bound_by run in_segment perform walk stream_at joined streams_at binds_from binds_in binds_found rows_of written settled
tables = record { filled = refl; too_short = refl; refusing = refl }
