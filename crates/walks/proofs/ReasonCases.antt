-- Worked cases of absences (document 02, note 2): of a protocol list, and of the slots of protocol names. A skipped row's reason is worked in
-- HubRun.antt (`row_1`, `hub_answers`), a section record's in SectionCases.antt (`step_cases`).
use Prim.Native.Nat.{ℕ, ◌-◌, ◌^◌}
use mathlib.Core.Path.{◌≡◌, refl}
use mathlib.Core.List.{List, [], ◌∷◌}
use lib.ListN.{replicate}
use Rattle.reads.specs.Address.{stripped}
use Rattle.reads.specs.Outcome.{absent, choose, nonzero, sum64}
use Rattle.reads.specs.Files.{file_of}
use Rattle.reads.specs.Place.{le, readable_at, readable, word, word_in, le_in}
use Rattle.reads.specs.Segment.{rows, ends, holds, placed, lookup}
use Rattle.reads.specs.Table.{tabulate}
use Rattle.reads.specs.declared.answer.Reason.TheVariants.{NullAddress, Unresolved, Unreadable, FieldOverflow, OddList}
use Rattle.pointers.specs.Chain.{follow_from, follow}
use Rattle.pointers.specs.Slot.{rebase_at, bind_at, symbol_of, stored, resolve}
use Rattle.pointers.specs.Tables.{Tables, tables_of}
use Rattle.records.specs.Ask.{even_list}
use Rattle.records.specs.Protocol.{decode_protocol}
use Rattle.walks.specs.ProtocolNames.{protocol_list_at, decode_protocol_list, decode_protocol_name, decode_protocol_name_in, name_in, decode_name_in}

-- Bytes whose first `size` are mapped at va, with no rebase and no bind.
abbrev mapped_at : List ℕ → ℕ → ℕ → Tables
mapped_at bytes va size = tables_of (bytes ∷ []) (va ∷ size ∷ 0 ∷ size ∷ 0 ∷ []) (replicate 15 0) (replicate 8 0) [] [] []

-- At 0; odd; 8 bytes; address + 8.
protocol_list_reasons : protocol_list_at (mapped_at (replicate 8 0) 0x1000 8) 0
    ∷ protocol_list_at (mapped_at (replicate 8 0) 0x1000 8) 0x1001
    ∷ protocol_list_at (mapped_at (replicate 7 0) 0x1000 7) 0x1000
    ∷ protocol_list_at (mapped_at (replicate 8 0) (2 ^ 64 - 8) 7) (2 ^ 64 - 8)
    ∷ []
    ≡ absent NullAddress ∷ absent OddList ∷ absent Unreadable ∷ absent FieldOverflow ∷ []
unfolding file_of decode_protocol_list even_list readable readable_at lookup rows tabulate ends holds placed sum64 word_in le_in le nonzero choose
protocol_list_reasons = refl

-- The slot does not resolve; it holds 0; it holds an address where no protocol can be read. No bind names it, which is never the reason.
name_reasons : name_in (mapped_at [] 0x1000 0) 0x1000
    ∷ name_in (mapped_at (replicate 8 0) 0x1000 8) 0x1000
    ∷ name_in (mapped_at (0 ∷ 16 ∷ replicate 6 0) 0x1000 8) 0x1000
    ∷ []
    ≡ absent Unresolved ∷ absent NullAddress ∷ absent Unreadable ∷ []
unfolding file_of decode_name_in decode_protocol_name_in decode_protocol_name decode_protocol symbol_of bind_at resolve rebase_at follow follow_from stored stripped word readable readable_at lookup rows tabulate ends holds placed sum64 le nonzero choose
name_reasons = refl
