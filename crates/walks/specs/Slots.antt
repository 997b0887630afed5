-- The slots of the section lists, taken one by one (document 01, Section walk, questions 10 and 11): what the section walks share.
use Rattle.std.specs.Prelude.{ℕ, zero, suc, ◌+◌, ◌^◌, ◌≤◌, ◌<◌, max, Bool, false, ◌&&◌, ◌||◌, List, [], ◌∷◌, ◌++◌, leb, eqb, length, get_or, take, Result, Ok, Err}
use Rattle.reads.specs.Outcome.{Outcome, value, absent, refused, and_then, choose}
use Rattle.reads.specs.Relative.{slot_address}
use Rattle.pointers.specs.Tables.{Tables}
use Rattle.pointers.specs.Question.{question, asked}
use Rattle.pointers.specs.Section.{section_at}
use Rattle.records.specs.Decode.{Decode, run, then, or0, slot, nonzero}
use Rattle.walks.specs.Handed.{unless_refused}
use Rattle.walks.specs.declared.slots.Lists.{Lists}
use Rattle.walks.specs.declared.slots.Lists.TheVariants.{Classes, Categories, Protocols}
use Rattle.walks.specs.declared.slots.SlotStep.{SlotStep}
use Rattle.walks.specs.declared.slots.SlotStep.TheVariants as step
use Rattle.walks.specs.declared.slots.SlotWalk.{SlotWalk}
use Rattle.reads.specs.declared.answer.Question.TheVariants.{WalkState, LedgerLength}
use Rattle.reads.specs.declared.answer.Question.{Question}

-- The addresses of n slots from slot k on; those of a section, slots of 8 full bytes at vmaddr + 8k modulo 2^64.
unfoldable pub slots_from : ℕ → ℕ → ℕ → List ℕ
slots_from vmaddr k zero = []
slots_from vmaddr k (suc n) = slot_address vmaddr k ∷ slots_from vmaddr (suc k) n

unfoldable pub section_slots : List ℕ → ℕ → List ℕ
section_slots ws i = slots_from (section_at ws i).vmaddr 0 (section_at ws i).slots

-- class_list, then nlclslist; cat_list, then nlcat_list; proto_list.
abbrev pub slots_of : Lists → List ℕ → List ℕ
slots_of Classes ws = section_slots ws 0 ++ section_slots ws 1
slots_of Categories ws = section_slots ws 2 ++ section_slots ws 3
slots_of Protocols ws = section_slots ws 4

-- How many slots two sections have, and how many proto_list has.
unfoldable pub slot_count : List ℕ → ℕ → ℕ → ℕ
slot_count ws first second = (section_at ws first).slots + (section_at ws second).slots

unfoldable pub protocol_count : List ℕ → ℕ
protocol_count ws = (section_at ws 4).slots

-- The address in a slot; 0 is dropped.
unfoldable pub decode_address : ℕ → Decode ℕ
decode_address a = then (or0 (slot a)) nonzero

abbrev pub address_in : Tables → ℕ → Outcome ℕ
address_in t a = run t (decode_address a)

-- Among the words of a list.
unfoldable pub among : ℕ → List ℕ → Bool
among a [] = false
among a (b ∷ bs) = eqb b a || among a bs

-- 10: slot at most the slots, words of the ledger in use at most the slot?
unfoldable pub slot_fits : List ℕ → ℕ → ℕ → Bool
slot_fits slots slot used = leb slot (length slots) && leb used slot

-- 11: a word of the ledger for each slot?
unfoldable pub ledger_fits : List ℕ → ℕ → Bool
ledger_fits slots words = leb (length slots) words

-- The questions of a step: 1 to 6, 8 and 10; with a ledger 11 too.
unfoldable pub asked_slot : Tables → List ℕ → ℕ → ℕ → Outcome (Unit {0})
asked_slot t slots slot used = and_then (asked t) (λ _. question WalkState (slot_fits slots slot used))

unfoldable pub asked_ledger : Tables → List ℕ → ℕ → ℕ → ℕ → Outcome (Unit {0})
asked_ledger t slots slot used words = and_then (asked_slot t slots slot used) (λ _. question LedgerLength (ledger_fits slots words))

-- What the next slot comes to: the address in it; it is dropped; no slot is left; or the number of the question that refuses.
pub data TakenSlot : Type 0 where
  address : ℕ → TakenSlot
  slot_dropped : TakenSlot
  no_slot : TakenSlot
  slot_refused : Question → TakenSlot

abbrev pub taken_by : Outcome ℕ → TakenSlot
taken_by (value a) = address a
taken_by (absent r) = slot_dropped
taken_by (refused k) = slot_refused k

-- Slot k.
unfoldable pub slot_taken : Tables → List ℕ → ℕ → TakenSlot
slot_taken t slots k = choose (eqb k (length slots)) no_slot (taken_by (address_in t (get_or slots k 0)))

-- Met before, by the words of the ledger in use and the highest address met so far: one above it is new without a look.
abbrev pub met_below : ℕ → List ℕ → ℕ → Bool
met_below highest met a = leb a highest && among a met

-- The greatest of some addresses, 0 for none.
unfoldable pub greatest : List ℕ → ℕ
greatest [] = 0
greatest (b ∷ bs) = max b (greatest bs)

-- An address met before is dropped.
abbrev pub first_met : (ℕ → Bool) → TakenSlot → TakenSlot
first_met met (address a) = choose (met a) slot_dropped (address a)
first_met met slot_dropped = slot_dropped
first_met met no_slot = no_slot
first_met met (slot_refused k) = slot_refused k

-- The next slot of a walk that takes an address as often as it is listed, and of one that takes each once.
unfoldable pub next_slot : Tables → List ℕ → ℕ → TakenSlot
next_slot t slots slot = unless_refused (asked_slot t slots slot 0) slot_refused (slot_taken t slots slot)

unfoldable pub next_new : Tables → List ℕ → ℕ → ℕ → ℕ → List ℕ → TakenSlot
next_new t slots slot used highest ledger =
    unless_refused (asked_ledger t slots slot used (length ledger)) slot_refused
    (first_met (met_below highest (take used ledger)) (slot_taken t slots slot))

-- Document 01's meaning of each case of the code's answer.
abbrev pub slot_step : SlotStep → TakenSlot
slot_step (step.Address a) = address a
slot_step step.Dropped = slot_dropped
slot_step step.Finished = no_slot

abbrev pub slot_outcome : Result SlotStep Question → TakenSlot
slot_outcome (Ok s) = slot_step s
slot_outcome (Err k) = slot_refused k

abbrev pub slot_walk : ℕ → ℕ → ℕ → SlotWalk
slot_walk slot used highest = record { slot = slot; used = used; highest = highest }

-- A slot is left, and a word of a ledger of so many for its address.
pub record Room (w : SlotWalk) (words : ℕ) : Type 0 where
  pub further : w.slot + 1 < 2 ^ 64
  pub in_use : w.used ≤ w.slot
  pub free : w.used < words
