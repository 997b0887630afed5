-- Protocol names (objc-runtime-new.h, protocol_list_t; document 01, Protocol names and Steps; protocol.rs, protocol_name_iter).
use Rattle.reads.specs.declared.answer.Missing.{Missing}
use Rattle.std.specs.Prelude.{ℕ, zero, suc, ◌+◌, ◌*◌, ◌^◌, min, Bool, ◌&&◌, List, [], ◌∷◌, ltb, Result}
use Rattle.reads.specs.Outcome.{Outcome, value, absent, refused, choose}
use Rattle.reads.specs.declared.answer.Reason.{Reason}
use Rattle.reads.specs.declared.text.Text.{Text}
use Rattle.pointers.specs.Tables.{Tables, under}
use Rattle.pointers.specs.declared.setting.Setting.{Setting}
use Rattle.pointers.specs.Question.{asked}
use Rattle.records.specs.Header.{protocol_list_size, protocol_list_count}
use Rattle.records.specs.Decode.{Decode, run, done, then, else_first, sum64, nonzero, even, readable, u64_in, slot, symbol}
use Rattle.records.specs.Protocol.{decode_protocol}
use Rattle.walks.specs.Gather.{gather, of_value, present}
use Rattle.walks.specs.Handed.{unless_refused, Handed, hands, hands_back, from_cursor, step_answer, stepped}
use Rattle.walks.specs.declared.protocol_names.ProtocolList.{ProtocolList}
use Rattle.walks.specs.declared.protocol_names.NameStep.{NameStep}
use Rattle.walks.specs.declared.protocol_names.NameStep.TheVariants as step
use Rattle.walks.specs.declared.protocol_names.ProtocolNameWalk.{ProtocolNameWalk}
use Rattle.walks.specs.declared.stepped.Stepped.{Stepped}

-- protocol_list_t: absent at 0, at an odd address, where its 8 bytes cannot be read and where address + 8 is over 64 bits. The count is a
-- u64, at most 1,048,576 of it.
unfoldable pub decode_protocol_list : ℕ → Decode ProtocolList
decode_protocol_list va =
    then (nonzero va) (λ _.
    then (even va) (λ _.
    then (readable va protocol_list_size) (λ p.
    then (u64_in p protocol_list_count) (λ count.
    then (sum64 va protocol_list_size) (λ base.
    done (record { base = base; count = min count 1048576 }))))))

abbrev pub protocol_list_at : Tables → ℕ → Outcome ProtocolList
protocol_list_at t va = run t (decode_protocol_list va)

-- The address of slot i of a list.
abbrev pub slot_in : ProtocolList → ℕ → ℕ
slot_in l i = l.base + 8 * i

-- It is there: below the count, its address within 64 bits.
unfoldable pub has_slot : ProtocolList → ℕ → Bool
has_slot l i = ltb i l.count && ltb (slot_in l i) (2 ^ 64)

-- The name of the protocol at an address that is not 0.
unfoldable pub decode_protocol_name : ℕ → Decode Text
decode_protocol_name va = then (nonzero va) (λ a. then (decode_protocol a) (λ p. done p.name))

abbrev pub protocol_name_at : Tables → ℕ → Outcome Text
protocol_name_at t va = run t (decode_protocol_name va)

-- The name of the protocol whose address the slot at a holds; 0 is not tried as a protocol.
unfoldable pub decode_protocol_name_in : ℕ → Decode Text
decode_protocol_name_in a = then (slot a) decode_protocol_name

abbrev pub protocol_name_in : Tables → ℕ → Outcome Text
protocol_name_in t a = run t (decode_protocol_name_in a)

-- The name of the slot at a: of the protocol that it holds if that decodes, else the slot's bind less its prefix. Where both are absent the
-- reason is the protocol's.
unfoldable pub decode_name_in : ℕ → Decode Text
decode_name_in a = else_first (decode_protocol_name_in a) (symbol a)

abbrev pub name_in : Tables → ℕ → Outcome Text
name_in t a = run t (decode_name_in a)

-- A walk over the names of a list, under the setting that it began with.
abbrev pub walk_at : Setting → ℕ → ℕ → ProtocolNameWalk
walk_at setting list cursor = record { list = list; cursor = cursor; setting = setting }

-- What a step reaches where no question refuses it: the name of a slot, or a slot that gives none and why; or it has finished. As an
-- outcome, absent is an absent list.
pub data ReachedName : Type 0 where
  name_reached : Text → ReachedName
  name_passed : Reason → ReachedName
  names_finished : ReachedName

abbrev pub NameLeft : Type 0
NameLeft = Handed ReachedName ProtocolNameWalk

-- What a slot answers by its name.
abbrev pub slot_answer : Outcome Text → Outcome ReachedName
slot_answer (value name) = value (name_reached name)
slot_answer (absent r) = value (name_passed r)
slot_answer (refused k) = refused k

-- The walk is one slot on; a number refuses the step.
abbrev pub named : ProtocolNameWalk → Outcome Text → NameLeft
named w name = unless_refused name (hands_back w) (hands (slot_answer name) (walk_at w.setting w.list (w.cursor + 1)))

-- The next slot; with none left the walk has finished, at the count.
unfoldable pub step_in : Tables → ProtocolNameWalk → ProtocolList → NameLeft
step_in t w l =
    choose (has_slot l w.cursor) (named w (name_in t (slot_in l w.cursor))) (hands (value names_finished) (walk_at w.setting w.list l.count))

unfoldable pub over_names : Tables → ProtocolNameWalk → Outcome ProtocolList → NameLeft
over_names t w list = from_cursor w w.cursor (λ l. l.count) (step_in t w) list

-- A step under a setting: 1 to 6 and 8 are asked, then 10, then 9, 7 and 14 as the lookups come.
unfoldable pub next_name_under : Tables → ProtocolNameWalk → NameLeft
next_name_under t w = unless_refused (asked t) (hands_back w) (over_names t w (protocol_list_at t w.list))

-- A step, which takes the setting from the walk, never from what it is lent (document 02, note 12).
abbrev pub next_name : Tables → ProtocolNameWalk → NameLeft
next_name t w = next_name_under (under w.setting t) w

-- Document 01's meaning of each case of the code's answers.
abbrev pub name_step : NameStep → ReachedName
name_step (step.Name name) = name_reached name
name_step (step.Passed r) = name_passed r
name_step step.Finished = names_finished

abbrev pub names_answer : Result NameStep Missing → Outcome ReachedName
names_answer walked = step_answer name_step walked

abbrev pub name_left : Stepped NameStep ProtocolNameWalk → NameLeft
name_left r = stepped name_step r

-- What the slots from i on give, k at most, up to the first that is not there.
unfoldable pub slot_names : Tables → ProtocolList → ℕ → ℕ → List (Outcome Text)
slot_names t l i zero = []
slot_names t l i (suc k) = choose (has_slot l i) (name_in t (slot_in l i) ∷ slot_names t l (i + 1) k) []

-- The protocol names of the list at an address: of every slot that gives one; an absent list has none.
unfoldable pub protocol_names : Tables → ℕ → Outcome (List Text)
protocol_names t va = of_value (protocol_list_at t va) (λ l. gather present (slot_names t l 0 l.count))

-- The names among answers; an absent list says none.
abbrev pub name_said : ReachedName → List Text
name_said (name_reached name) = name ∷ []
name_said (name_passed r) = []
name_said names_finished = []

unfoldable pub names_said : List (Outcome ReachedName) → Outcome (List Text)
names_said answers = gather (λ o. of_value o (λ r. value (name_said r))) answers
