-- Question 25 and the records, computed: files of a header and at most two commands.
use Prim.Native.Nat.{ℕ}
use mathlib.Core.Path.{◌≡◌, refl}
use mathlib.Core.List.{List, [], ◌∷◌, ◌++◌}
use lib.ListN.{set, replicate}
use Rattle.reads.specs.Outcome.{value, refused, choose}
use Rattle.reads.specs.Place.{le, le_in}
use Rattle.pointers.specs.Question.{question}
use Rattle.macho.specs.Commands.{headed, sectioned, fits, all_fit, asked_commands, of_kind}
use Rattle.fixups.specs.Fixups.{fixups_in, fixups_from, fixups_found}
use Rattle.opcodes.specs.DyldInfo.{earlier}
use Rattle.opcodes.specs.Streams.{walk, stream_at, joined, streams_at}
use Rattle.opcodes.specs.Binds.{binds_from, binds_in, binds_found}
use Rattle.filetables.specs.Kind.{type_read, segment_read, stream_read, info_read, command_read, all_read, carriers, commands_read, is_read, asked_kind}
use Rattle.filetables.specs.FileRecords.{as_records, records_in, file_records}
use Rattle.reads.specs.declared.answer.Question.TheVariants.{FixupData, FileKind}

abbrev zeros : ℕ → List ℕ
zeros n = replicate n 0

-- mach_header_64 of a filetype and the top byte of the flags, then `count` commands of `size` bytes.
abbrev file : ℕ → ℕ → ℕ → ℕ → List ℕ → List ℕ
file filetype flags count size cmds =
    207 ∷ 250 ∷ 237 ∷ 254 ∷ 12 ∷ 0 ∷ 0 ∷ 1 ∷ 0 ∷ 0 ∷ 0 ∷ 0 ∷ filetype ∷ 0 ∷ 0 ∷ 0 ∷ count ∷ 0 ∷ 0 ∷ 0 ∷ size ∷ 0 ∷ 0 ∷ 0 ∷ 0 ∷ 0 ∷ 0 ∷ flags ∷ 0 ∷ 0 ∷ 0 ∷ 0 ∷ cmds

-- LC_DYLD_INFO and LC_DYLD_INFO_ONLY without opcodes, LC_DYLD_CHAINED_FIXUPS of 8 bytes, which is 19.
abbrev info : List ℕ
info = 34 ∷ 0 ∷ 0 ∷ 0 ∷ 48 ∷ 0 ∷ 0 ∷ 0 ∷ zeros 40

abbrev info_only : List ℕ
info_only = 34 ∷ 0 ∷ 0 ∷ 128 ∷ 48 ∷ 0 ∷ 0 ∷ 0 ∷ zeros 40

abbrev chained : List ℕ
chained = 52 ∷ 0 ∷ 0 ∷ 128 ∷ 8 ∷ 0 ∷ 0 ∷ 0 ∷ []

-- LC_ENCRYPTION_INFO_64 with a cryptid, LC_DYSYMTAB with a nextrel, LC_SEGMENT_64 with flags.
abbrev encryption : ℕ → List ℕ
encryption cryptid = 44 ∷ 0 ∷ 0 ∷ 0 ∷ 24 ∷ 0 ∷ 0 ∷ 0 ∷ (zeros 8 ++ (cryptid ∷ zeros 7))

abbrev dysymtab : ℕ → List ℕ
dysymtab nextrel = 11 ∷ 0 ∷ 0 ∷ 0 ∷ 80 ∷ 0 ∷ 0 ∷ 0 ∷ (zeros 60 ++ (nextrel ∷ zeros 11))

abbrev segment : ℕ → List ℕ
segment flags = 25 ∷ 0 ∷ 0 ∷ 0 ∷ 72 ∷ 0 ∷ 0 ∷ 0 ∷ (zeros 60 ++ (flags ∷ zeros 3))

-- The kinds, and what says no.
pub record Kinds : Type 0 where
  pub dylib : file_records (file 6 0 0 0 []) ≡ value []
  pub executable : file_records (file 2 0 0 0 []) ≡ value []
  pub object : file_records (file 1 0 0 0 []) ≡ refused FileKind
  pub stub : file_records (file 9 0 0 0 []) ≡ refused FileKind
  pub symbols : file_records (file 10 0 0 0 []) ≡ refused FileKind
  pub cached : file_records (file 6 128 0 0 []) ≡ refused FileKind
  pub plain : file_records (file 6 0 1 24 (encryption 0)) ≡ value []
  pub encrypted : file_records (file 6 0 1 24 (encryption 1)) ≡ refused FileKind
  pub symtab : file_records (file 6 0 1 80 (dysymtab 0)) ≡ value []
  pub relocated : file_records (file 6 0 1 80 (dysymtab 1)) ≡ refused FileKind
  pub noreloc : file_records (file 6 0 1 72 (segment 20)) ≡ value []
  pub protected : file_records (file 6 0 1 72 (segment 8)) ≡ refused FileKind
  pub to_the_end : file_records (set (file 6 0 1 72 (segment 0)) 80 104) ≡ value []
  pub cut : file_records (set (file 6 0 1 72 (segment 0)) 80 105) ≡ refused FileKind
  pub stream_cut : file_records (set (set (file 6 0 1 48 info_only) 48 80) 52 1) ≡ refused FileKind
  pub by_opcodes : file_records (file 6 0 1 48 info_only) ≡ value []
  pub by_chains : file_records (file 6 0 1 8 chained) ≡ refused FixupData
  pub both : file_records (file 6 0 2 56 (chained ++ info_only)) ≡ refused FileKind
  pub twice : file_records (file 6 0 2 96 (info ++ info_only)) ≡ refused FileKind

pub kinds : Kinds
unfolding le le_in choose question headed sectioned fits all_fit asked_commands of_kind fixups_in fixups_from fixups_found earlier walk stream_at joined streams_at binds_from binds_in binds_found type_read segment_read stream_read info_read command_read all_read carriers commands_read is_read asked_kind as_records records_in file_records
kinds = record { dylib = refl; executable = refl; object = refl; stub = refl; symbols = refl; cached = refl; plain = refl; encrypted = refl; symtab = refl; relocated = refl; noreloc = refl; protected = refl; to_the_end = refl; cut = refl; stream_cut = refl; by_opcodes = refl; by_chains = refl; both = refl; twice = refl }
