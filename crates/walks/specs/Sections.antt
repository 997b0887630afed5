-- The walks over the section lists (document 01, Section walk and Steps; class.rs, category.rs, protocol.rs).
use Rattle.std.specs.Prelude.{ℕ, ◌+◌, max, Bool, true, false, ◌≡◌, List, Result, Ok, Err, eqb, length, take, set}
use Rattle.reads.specs.Outcome.{Outcome, value, absent, refused, choose}
use Rattle.reads.specs.declared.answer.Reason.{Reason}
use Rattle.pointers.specs.Tables.{Tables}
use Rattle.records.specs.Class.{class_at}
use Rattle.records.specs.Category.{category_at}
use Rattle.records.specs.Protocol.{protocol_at}
use Rattle.walks.specs.Handed.{unless_refused}
use Rattle.walks.specs.Slots.{slots_of, asked_slot, asked_ledger, TakenSlot, address, slot_dropped, no_slot, slot_refused, slot_taken, among, met_below, greatest, first_met}
use Rattle.records.specs.declared.class.ObjcClass.{ObjcClass}
use Rattle.records.specs.declared.category.ObjcCategory.{ObjcCategory}
use Rattle.records.specs.declared.protocol.ObjcProtocol.{ObjcProtocol}
use Rattle.walks.specs.declared.slots.Lists.{Lists}
use Rattle.walks.specs.declared.slots.Lists.TheVariants.{Classes, Categories, Protocols}
use Rattle.walks.specs.declared.section_slots.ClassSlots.{ClassSlots}
use Rattle.walks.specs.declared.section_slots.CategorySlots.{CategorySlots}
use Rattle.walks.specs.declared.section_slots.ProtocolSlots.{ProtocolSlots}
use Rattle.walks.specs.declared.section_slots.RecordTaken.{RecordTaken}
use Rattle.walks.specs.declared.sections.RecordWalk.{RecordWalk}
use Rattle.walks.specs.declared.sections.RecordStep.{RecordStep}
use Rattle.walks.specs.declared.sections.RecordStep.TheVariants as step
use Rattle.walks.specs.declared.sections.RecordStepped.{RecordStepped}
use Rattle.reads.specs.declared.answer.Question.{Question}

-- A walk's state: the next slot, how many words of the ledger are in use, the highest address met, and the address that waits, 0 for none.
pub record Walk : Type 0 where
  pub slot : ℕ
  pub used : ℕ
  pub highest : ℕ
  pub waiting : ℕ

abbrev pub walk : ℕ → ℕ → ℕ → ℕ → Walk
walk slot used highest waiting = record { slot = slot; used = used; highest = highest; waiting = waiting }

-- Before the first slot.
abbrev pub at_start : Walk
at_start = walk 0 0 0 0

-- The addresses met before: the words of the ledger in use.
abbrev pub met_in : Walk → List ℕ → List ℕ
met_in w ledger = take w.used ledger

-- What holds of every state that `new` and steps hand back, with the ledger as they left it: the highest is the greatest word in use.
abbrev pub Highest : Walk → List ℕ → Type 0
Highest w ledger = w.highest ≡ greatest (met_in w ledger)

-- What a step gives where no question refuses it: a record; the reason for which the record is absent; a slot is dropped, which is no
-- absence; or there was nothing left.
pub data Step (A : Type 0) : Type 0 where
  found : A → Step A
  passed : Reason → Step A
  dropped : Step A
  finished : Step A

-- A call's answer, with the walk that it hands back and the ledger as it leaves it.
pub record Left (A : Type 0) : Type 0 where
  pub answer : Outcome (Step A)
  pub walk : Walk
  pub ledger : List ℕ

abbrev pub leaves : {A : Type 0} → Outcome (Step A) → Walk → List ℕ → Left A
leaves o w ledger = record { answer = o; walk = w; ledger = ledger }

-- With a number both are as given.
abbrev pub stays : {A : Type 0} → Walk → List ℕ → Question → Left A
stays w ledger k = leaves (refused k) w ledger

-- What is walked: the lists, the record at an address, the address that waits after it (0 for none), and the record there.
pub record Kind (A : Type 0) : Type 0 where
  pub lists : Lists
  pub decoded : Tables → ℕ → Outcome A
  pub after : A → ℕ
  pub waited : Tables → ℕ → Outcome A

abbrev pub slots_in : {A : Type 0} → Kind A → Tables → List ℕ
slots_in k t = slots_of k.lists t.sections

-- The metaclass comes after its class, if isa is neither 0 nor the class.
unfoldable pub meta_of : ObjcClass → ℕ
meta_of c = choose (eqb c.isa c.address) 0 c.isa

abbrev pub classes : Kind ObjcClass
classes = record { lists = Classes; decoded = λ t a. class_at t a false; after = meta_of; waited = λ t a. class_at t a true }

-- Nothing waits.
abbrev pub categories : Kind ObjcCategory
categories = record { lists = Categories; decoded = category_at; after = λ c. 0; waited = category_at }

-- A record is found, and the address after it waits; one that does not decode is passed with its reason. The walk goes on, and the ledger
-- is the new one. With a number both are as given.
abbrev pub by_record : {A : Type 0} → Walk → List ℕ → (A → ℕ) → (ℕ → Walk) → List ℕ → Outcome A → Left A
by_record w ledger after on new (value a) = leaves (value (found a)) (on (after a)) new
by_record w ledger after on new (absent r) = leaves (value (passed r)) (on 0) new
by_record w ledger after on new (refused k) = stays w ledger k

-- The address in a slot is decoded, a slot may be dropped; with none left the walk has finished.
abbrev pub by_slot : {A : Type 0} → Walk → List ℕ → (ℕ → Left A) → TakenSlot → Left A
by_slot w ledger decode (address a) = decode a
by_slot w ledger decode slot_dropped = leaves (value dropped) (walk (w.slot + 1) w.used w.highest 0) ledger
by_slot w ledger decode no_slot = leaves (value finished) w ledger
by_slot w ledger decode (slot_refused k) = stays w ledger k

-- What waits is taken.
unfoldable pub take_waiting : {A : Type 0} → Kind A → Tables → Walk → List ℕ → Left A
take_waiting k t w ledger = by_record w ledger (λ c. 0) (walk w.slot w.used w.highest) ledger (k.waited t w.waiting)

-- The same, where no question refuses the step.
unfoldable pub next_waiting : {A : Type 0} → Kind A → Tables → Walk → List ℕ → Left A
next_waiting k t w ledger =
    unless_refused (asked_ledger t (slots_in k t) w.slot w.used (length ledger)) (stays w ledger) (take_waiting k t w ledger)

-- An address first met: decodable or not, the next word of the ledger becomes it.
unfoldable pub take_new : {A : Type 0} → Kind A → Tables → Walk → List ℕ → ℕ → Left A
take_new k t w ledger a =
    by_record w ledger k.after (walk (w.slot + 1) (w.used + 1) (max w.highest a)) (set ledger w.used a) (k.decoded t a)

-- The next slot is taken; 0 and the addresses met before are dropped.
unfoldable pub take_slot : {A : Type 0} → (ℕ → Bool) → Kind A → Tables → Walk → List ℕ → Left A
take_slot before k t w ledger = by_slot w ledger (take_new k t w ledger) (first_met before (slot_taken t (slots_in k t) w.slot))

-- A step of a walk that meets each address once: the questions 1 to 6, 8, 10 and 11; then what waits, else the next slot.
unfoldable pub step_by : {A : Type 0} → (ℕ → Bool) → Kind A → Tables → Walk → List ℕ → Left A
step_by before k t w ledger =
    unless_refused (asked_ledger t (slots_in k t) w.slot w.used (length ledger)) (stays w ledger)
    (choose (eqb w.waiting 0) (take_slot before k t w ledger) (take_waiting k t w ledger))

-- The step by the ledger alone; and the step with the highest address met, which is that one where `Highest` holds.
unfoldable pub ledger_step_of : {A : Type 0} → Kind A → Tables → Walk → List ℕ → Left A
ledger_step_of k t w ledger = step_by (λ a. among a (met_in w ledger)) k t w ledger

unfoldable pub step_of : {A : Type 0} → Kind A → Tables → Walk → List ℕ → Left A
step_of k t w ledger = step_by (met_below w.highest (met_in w ledger)) k t w ledger

-- A protocol listed twice comes twice.
unfoldable pub take_protocol : Tables → Walk → List ℕ → ℕ → Left ObjcProtocol
take_protocol t w ledger a = by_record w ledger (λ p. 0) (walk (w.slot + 1) w.used w.highest) ledger (protocol_at t a)

-- A step of the protocol walk: the questions 1 to 6, 8 and 10, then the next slot; the ledger is not looked at.
unfoldable pub protocol_step_of : Tables → Walk → List ℕ → Left ObjcProtocol
protocol_step_of t w ledger =
    unless_refused (asked_slot t (slots_of Protocols t.sections) w.slot w.used) (stays w ledger)
    (by_slot w ledger (take_protocol t w ledger) (slot_taken t (slots_of Protocols t.sections) w.slot))

-- Document 01's meaning of the code's walks, each of which holds the setting that it began with beside it, and of each case of its answers.
abbrev pub class_slots : ClassSlots → Walk
class_slots w = walk w.slots.slot w.slots.used w.slots.highest w.meta

abbrev pub class_walk : RecordWalk ClassSlots → Walk
class_walk w = class_slots w.slots

abbrev pub category_slots : CategorySlots → Walk
category_slots w = walk w.slots.slot w.slots.used w.slots.highest 0

abbrev pub category_walk : RecordWalk CategorySlots → Walk
category_walk w = category_slots w.slots

abbrev pub protocol_slots : ProtocolSlots → Walk
protocol_slots w = walk w.slot 0 0 0

abbrev pub protocol_walk : RecordWalk ProtocolSlots → Walk
protocol_walk w = protocol_slots w.slots

abbrev pub record_step : {R : Type 0} → RecordStep R → Step R
record_step (step.Record r) = found r
record_step (step.Passed r) = passed r
record_step step.Dropped = dropped
record_step step.Finished = finished

abbrev pub record_answer : {R : Type 0} → Result (RecordStep R) Question → Outcome (Step R)
record_answer (Ok s) = value (record_step s)
record_answer (Err k) = refused k

-- A record's decoding as a step: it is found, or passed where it is absent; and the address that waits after a step, 0 for none.
abbrev pub decoded_step : {A : Type 0} → Outcome A → Outcome (Step A)
decoded_step (value a) = value (found a)
decoded_step (absent r) = value (passed r)
decoded_step (refused k) = refused k

abbrev pub waits_after : {A : Type 0} → (A → ℕ) → Step A → ℕ
waits_after after (found a) = after a
waits_after after (passed r) = 0
waits_after after dropped = 0
waits_after after finished = 0

-- What a step leaves, by where the walk stands then.
abbrev pub record_taken : {R S : Type 0} → (S → Walk) → RecordTaken R S → List ℕ → Left R
record_taken state r ledger = leaves (record_answer r.step) (state r.slots) ledger

abbrev pub record_left : {R S : Type 0} → (S → Walk) → RecordStepped R S → List ℕ → Left R
record_left state r ledger = leaves (record_answer r.step) (state r.walk.slots) ledger
