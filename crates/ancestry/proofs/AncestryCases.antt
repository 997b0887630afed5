-- Worked examples, computed from the definitions: each way in which a chain can end, loops and a class that leads into one, a bound slot
-- whose word decodes; all of them written, and a buffer that is too short.
use Prim.Native.Nat.{ℕ}
use mathlib.Core.Path.{◌≡◌, refl}
use mathlib.Core.List.{List, [], ◌∷◌, ◌++◌, map, flat_map}
use lib.ListN.{replicate, set}
use Rattle.reads.specs.Outcome.{Outcome, value, absent, refused, choose, sum64, nonzero}
use Rattle.reads.specs.Files.{file_of, longest}
use Rattle.reads.specs.Place.{le, readable_at, readable, word}
use Rattle.reads.specs.Segment.{rows, ends, holds, placed, lookup}
use Rattle.reads.specs.Address.{stripped, data_arm64e, data64, mapped, picked_wide, picked}
use Rattle.reads.specs.declared.answer.Reason.TheVariants.{Unreadable}
use Rattle.pointers.specs.Tables.{Tables, tables_of, bind_words, chains}
use Rattle.pointers.specs.Question.{question, image_fits, whole_rows, section_fits, every, section_table, segment_files, info_whole, index_fits, asked_tables, asked_index, asked_lent}
use Rattle.pointers.specs.Index.{bind_nexts}
use Rattle.pointers.specs.Chain.{follow_from, follow}
use Rattle.pointers.specs.Slot.{rebase_at, stored, resolve}
use Rattle.records.specs.Class.{bits_of, decode_data, decode_class}
use Rattle.walks.specs.Gather.{gather}
use Rattle.ancestry.specs.Chain.{ended, looping, climb}
use Rattle.ancestry.specs.Ancestry.{super_at, up_in, limit_of, ancestry_of, fitting, written, ancestries_left}
use Rattle.ancestry.specs.declared.class_chain.Ancestry.{Ancestry}
use Rattle.reads.specs.declared.answer.Question.TheVariants.{AncestryRoom}

-- A word below 2^16.
abbrev small : ℕ → ℕ → List ℕ
small low high = low ∷ high ∷ replicate 6 0

-- Fourteen words at 0x1000, so that ten classes overlap, eight bytes apart; the superclass of each is the word after its first.
abbrev bytes : List ℕ
bytes =
    small 0 0
    ++ (small 8 16  -- of 0x1000: 0x1008
    ++ (small 0 0  -- of 0x1008: 0
    ++ (small 0 0  -- of 0x1010: 0, bound
    ++ (small 0 48  -- of 0x1018: 0x3000, where nothing is mapped
    ++ (small 32 16  -- of 0x1020: itself
    ++ (small 48 16  -- of 0x1028: 0x1030
    ++ (small 40 16  -- of 0x1030: 0x1028
    ++ (small 40 16  -- of 0x1038: 0x1028
    ++ (small 8 16  -- of 0x1040: 0x1008, bound too
    ++ (small 0 16  -- of 0x1048: 0x1000
    ++ replicate 24 0))))))))))

-- Binds of the superclass slots of 0x1010 and 0x1040, with empty names, and the index as opening leaves it.
abbrev binds : List ℕ
binds = 4120 ∷ 0 ∷ 0 ∷ 0 ∷ 4168 ∷ 0 ∷ 0 ∷ 0 ∷ []

abbrev index : List ℕ
index = set (set (replicate 8194 0) 4611 1) 4617 2

abbrev pub example : Tables
example = tables_of (bytes ∷ []) (4096 ∷ 112 ∷ 0 ∷ 112 ∷ 0 ∷ []) (replicate 15 0) (replicate 8 0) [] binds index

pub slots_bound : map (λ a. follow bind_words binds chains (bind_nexts []) a index) (4120 ∷ 4168 ∷ []) ≡ value 1 ∷ value 2 ∷ []
unfolding follow follow_from choose
slots_bound = refl

-- An address, and what the class there is told alone.
pub record Case : Type 0 where
  pub address : ℕ
  pub told : Outcome Ancestry

abbrev pub case : ℕ → Outcome Ancestry → Case
case address told = record { address = address; told = told }

abbrev pub cases : List Case
cases =
    -- a root
    case 4104 (value (ended 0 0))
    -- a chain up to superclass 0; two classes up
    ∷ case 4096 (value (ended 1 4104))
    ∷ case 4168 (value (ended 2 4104))
    -- a superclass that is bound, and one that does not decode
    ∷ case 4112 (value (ended 0 0))
    ∷ case 4120 (value (ended 0 0))
    -- its own superclass; a loop of two; one that leads into it
    ∷ case 4128 (value looping)
    ∷ case 4136 (value looping)
    ∷ case 4144 (value looping)
    ∷ case 4152 (value looping)
    -- a bound slot whose word decodes
    ∷ case 4160 (value (ended 1 4104))
    -- no class
    ∷ case 12288 (absent Unreadable)
    ∷ []

pub told_alone : map (λ (c : Case). ancestry_of example c.address) cases ≡ map (λ (c : Case). c.told) cases
unfolding file_of longest ancestry_of limit_of climb up_in super_at resolve rebase_at follow follow_from stored stripped word readable readable_at lookup rows ends holds placed le nonzero choose sum64 decode_class decode_data bits_of picked picked_wide mapped data_arm64e data64
told_alone = refl

-- Three of them, the second no class; a class above need not be listed, nor a loop that a class leads into.
abbrev pub addresses : List ℕ
addresses = 4168 ∷ 12288 ∷ 4152 ∷ 4104 ∷ []

pub three_written : ancestries_left example addresses (replicate 10 7) ≡ written (value 3) (2 ∷ 4104 ∷ 0 ∷ 0 ∷ 0 ∷ 1 ∷ 0 ∷ 0 ∷ 0 ∷ 7 ∷ [])
unfolding ancestries_left fitting gather file_of longest ancestry_of limit_of climb up_in super_at asked_lent asked_tables asked_index question image_fits whole_rows segment_files section_table every section_fits info_whole index_fits resolve rebase_at follow follow_from stored stripped word readable readable_at lookup rows ends holds placed le nonzero choose sum64 decode_class decode_data bits_of picked picked_wide mapped data_arm64e data64 flat_map
three_written = refl

pub eight_words : ancestries_left example addresses (replicate 8 7) ≡ written (refused AncestryRoom) (replicate 8 7)
unfolding ancestries_left fitting gather file_of longest ancestry_of limit_of climb up_in super_at asked_lent asked_tables asked_index question image_fits whole_rows segment_files section_table every section_fits info_whole index_fits resolve rebase_at follow follow_from stored stripped word readable readable_at lookup rows ends holds placed le nonzero choose sum64 decode_class decode_data bits_of picked picked_wide mapped data_arm64e data64 flat_map
eight_words = refl
