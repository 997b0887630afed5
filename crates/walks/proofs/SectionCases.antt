-- A worked example: five slots in class_list and nlclslist, of which two repeat an address, one is 0 and one does not decode.
use Prim.Native.Nat.{ℕ, ◌*◌}
use mathlib.Core.Path.{◌≡◌, refl}
use mathlib.Core.Bool.{true, false}
use mathlib.Core.List.{List, [], ◌∷◌, ◌++◌, map}
use lib.ListN.{replicate}
use Rattle.reads.specs.Outcome.{value, refused, choose, sum64, nonzero}
use Rattle.reads.specs.Files.{file_of, longest}
use Rattle.reads.specs.Place.{le, readable_at, readable, word}
use Rattle.reads.specs.Segment.{rows, ends, holds, placed, lookup}
use Rattle.reads.specs.Address.{stripped, data_arm64e, data64, mapped, picked_wide, picked}
use Rattle.reads.specs.Relative.{slot_address}
use Rattle.reads.specs.declared.answer.Reason.TheVariants.{Unreadable}
use Rattle.pointers.specs.Tables.{Tables, chains, tables_of, with_index}
use Rattle.pointers.specs.Question.{question, image_fits, whole_rows, segment_files, section_fits, every, section_table, info_whole, index_fits, asked_tables, asked_index, asked_lent}
use Rattle.pointers.specs.Section.{section_at}
use Rattle.pointers.specs.Chain.{follow_from, follow}
use Rattle.pointers.specs.Slot.{rebase_at, stored, resolve}
use Rattle.records.specs.Class.{bits_of, decode_data, decode_class}
use Rattle.walks.specs.Gather.{gather}
use Rattle.walks.specs.Slots.{slots_from, section_slots, decode_address, among, slot_fits, ledger_fits, asked_slot, asked_ledger, slot_taken}
use Rattle.walks.specs.Sections.{Walk, walk, at_start, found, passed, dropped, finished, Left, leaves, classes, meta_of, take_waiting, take_new, take_slot, step_by, step_of}
use Rattle.walks.specs.PlainSections.{addresses_in, without, once, listed, with_meta, plain_classes}
use Rattle.records.specs.declared.class.ObjcClass.{ObjcClass}
use Rattle.reads.specs.declared.answer.Question.TheVariants.{ChainOrder, WalkState, LedgerLength}

-- 72 bytes at 0x1000: a class whose isa is 0x1008, where 40 bytes can be read too; from 0x1028 on the slots 0x1000, 0, 0x1000, 0x3000.
abbrev bytes : List ℕ
bytes =
    8 ∷ 16 ∷ 0 ∷ 0 ∷ 0 ∷ 0 ∷ 0 ∷ 0
    ∷ 0 ∷ 0 ∷ 0 ∷ 0 ∷ 0 ∷ 0 ∷ 0 ∷ 0
    ∷ 0 ∷ 0 ∷ 0 ∷ 0 ∷ 0 ∷ 0 ∷ 0 ∷ 0
    ∷ 0 ∷ 0 ∷ 0 ∷ 0 ∷ 0 ∷ 0 ∷ 0 ∷ 0
    ∷ 0 ∷ 0 ∷ 0 ∷ 0 ∷ 0 ∷ 0 ∷ 0 ∷ 0
    ∷ 0 ∷ 16 ∷ 0 ∷ 0 ∷ 0 ∷ 0 ∷ 0 ∷ 0
    ∷ 0 ∷ 0 ∷ 0 ∷ 0 ∷ 0 ∷ 0 ∷ 0 ∷ 0
    ∷ 0 ∷ 16 ∷ 0 ∷ 0 ∷ 0 ∷ 0 ∷ 0 ∷ 0
    ∷ 0 ∷ 48 ∷ 0 ∷ 0 ∷ 0 ∷ 0 ∷ 0 ∷ 0
    ∷ []

-- class_list has the first three, nlclslist the last two.
abbrev pub example : Tables
example =
    tables_of (bytes ∷ []) (4096 ∷ 72 ∷ 0 ∷ 72 ∷ 0 ∷ []) (1 ∷ 4136 ∷ 24 ∷ 1 ∷ 4152 ∷ 16 ∷ 0 ∷ 0 ∷ 0 ∷ 0 ∷ 0 ∷ 0 ∷ 0 ∷ 0 ∷ 0 ∷ []) (replicate 8 0) [] [] (replicate (2 * chains) 0)

abbrev pub listed_class : ObjcClass
listed_class = record { address = 4096; isa = 4104; superclass_address = 0; bits = 0; is_meta = false }

abbrev pub listed_meta : ObjcClass
listed_meta = record { address = 4104; isa = 0; superclass_address = 0; bits = 4096; is_meta = true }

-- A step: the walk and the ledger that it is given, and what it leaves.
pub record Case : Type 0 where
  pub walk : Walk
  pub ledger : List ℕ
  pub expected : Left ObjcClass

abbrev case : Walk → List ℕ → Left ObjcClass → Case
case w ledger expected = record { walk = w; ledger = ledger; expected = expected }

-- The ledger once the class is met, and once 0x3000 is too.
abbrev one : List ℕ
one = 4096 ∷ 9 ∷ 9 ∷ 9 ∷ 9 ∷ []

abbrev two : List ℕ
two = 4096 ∷ 12288 ∷ 9 ∷ 9 ∷ 9 ∷ []

-- The seven steps of a walk: the class; its metaclass; 0 is dropped; the class was met before, in the second section too; 0x3000 does not
-- decode and counts as met; finished.
abbrev taken : List Case
taken =
    case at_start (replicate 5 9) (leaves (value (found listed_class)) (walk 1 1 4096 4104) one)
    ∷ case (walk 1 1 4096 4104) one (leaves (value (found listed_meta)) (walk 1 1 4096 0) one)
    ∷ case (walk 1 1 4096 0) one (leaves (value dropped) (walk 2 1 4096 0) one)
    ∷ case (walk 2 1 4096 0) one (leaves (value dropped) (walk 3 1 4096 0) one)
    ∷ case (walk 3 1 4096 0) one (leaves (value dropped) (walk 4 1 4096 0) one)
    ∷ case (walk 4 1 4096 0) one (leaves (value (passed Unreadable)) (walk 5 2 12288 0) two)
    ∷ case (walk 5 2 12288 0) two (leaves (value finished) (walk 5 2 12288 0) two)
    ∷ []

-- A state that no step handed back, with a highest address below one that was met: the class is given again.
abbrev by_hand : List Case
by_hand =
    case (walk 2 1 0 0) one (leaves (value (found listed_class)) (walk 3 2 4096 4104) (4096 ∷ 4096 ∷ 9 ∷ 9 ∷ 9 ∷ [])) ∷ []

-- Refused, with nothing written: a slot past the last, more words in use than slots taken, a ledger of four words.
abbrev refusals : List Case
refusals =
    case (walk 6 0 0 0) (replicate 5 9) (leaves (refused WalkState) (walk 6 0 0 0) (replicate 5 9))
    ∷ case (walk 1 2 0 0) (replicate 5 9) (leaves (refused WalkState) (walk 1 2 0 0) (replicate 5 9))
    ∷ case at_start (replicate 4 9) (leaves (refused LedgerLength) at_start (replicate 4 9))
    ∷ []

pub step_cases : map (λ (c : Case). step_of classes example c.walk c.ledger) (taken ++ (by_hand ++ refusals)) ≡ map (λ (c : Case). c.expected) (taken ++ (by_hand ++ refusals))
unfolding file_of step_of step_by asked_ledger asked_slot slot_fits ledger_fits section_slots slots_from asked_lent asked_tables asked_index question image_fits longest segment_files whole_rows section_table every section_fits info_whole index_fits take_slot take_new take_waiting slot_taken among decode_address section_at slot_address resolve rebase_at follow follow_from stored stripped word readable readable_at lookup rows ends holds placed le nonzero choose sum64 decode_class decode_data bits_of picked picked_wide mapped data_arm64e data64 meta_of
step_cases = refl

pub plain_case : plain_classes example ≡ value (listed_class ∷ listed_meta ∷ [])
unfolding file_of plain_classes listed with_meta addresses_in gather section_slots slots_from without once decode_address section_at slot_address resolve rebase_at follow follow_from stored stripped word readable readable_at lookup rows ends holds placed le nonzero choose sum64 decode_class decode_data bits_of picked picked_wide mapped data_arm64e data64 meta_of
plain_case = refl

-- With an index of which each word is 7 every chain begins above the record count: 9, which is not left out.
pub plain_number : plain_classes (with_index example (replicate (2 * chains) 7)) ≡ refused ChainOrder
unfolding plain_classes listed addresses_in gather section_slots slots_from section_at slot_address decode_address resolve rebase_at follow follow_from choose
plain_number = refl
