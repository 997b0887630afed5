-- What every step leaves, by its answer: how far the walk goes on, and of a section step the ledger. With a number or absent the walk comes back
-- as given.
use Prim.Native.Nat.{ℕ, ◌+◌, ◌≤◌, ◌<◌, max}
use mathlib.Core.Path.{◌≡◌, refl, sym, subst}
use mathlib.Core.Bool.{Bool}
use mathlib.Core.List.{List}
use native.Mathlib.Omega.{arith}
use native.Mathlib.Numerals.{add-one}
use lib.Dec.{leb, eqb}
use lib.ListN.{length, get_or, take, set, length-set}
use lib.Seq.{take-suc-set}
use borrow.Author.Tests.{eqb-false}
use Rattle.reads.specs.Outcome.{Outcome, value, absent, refused, choose}
use Rattle.reads.specs.declared.text.Text.{Text}
use Rattle.reads.proofs.Tests.{by_choose}
use Rattle.pointers.specs.Question.{question, asked}
use Rattle.pointers.specs.Tables.{Tables, image_in, under}
use Rattle.records.specs.List.{list_at, entry_address}
use Rattle.records.specs.Protocol.{protocol_at}
use Rattle.records.specs.Row.{row_at}
use Rattle.records.specs.Search.{first_readable}
use Rattle.records.specs.declared.list.Layout.{Layout}
use Rattle.records.specs.declared.protocol.ObjcProtocol.{ObjcProtocol}
use Rattle.records.specs.declared.row.Row.{Row}
use Rattle.records.proofs.Readables as readables
use Rattle.reads.specs.declared.answer.Reason.{Reason}
use Rattle.walks.specs.Handed.{unless_refused, Handed, hands, hands_back, over_list, count_by, from_cursor}
use Rattle.walks.specs.Walk.{ReachedRow, row_reached, row_skipped, rows_finished, RowLeft, settles, searched, over_rows, next_under, next_of}
use Rattle.walks.specs.ProtocolNames.{protocol_list_at, slot_in, name_in, ReachedName, name_reached, name_passed, names_finished, NameLeft, named, step_in, over_names, next_name_under, next_name}
use Rattle.walks.specs.Slots.{slots_of, asked_slot, asked_ledger, TakenSlot, address, slot_dropped, no_slot, slot_refused, address_in, taken_by, slot_taken, met_below, greatest, first_met}
use Rattle.walks.specs.Sections.{Walk, walk, met_in, Highest, Step, found, passed, dropped, finished, Left, leaves, stays, Kind, slots_in, by_record, by_slot, take_waiting, take_new, take_slot, step_by, step_of, take_protocol, protocol_step_of}
use Rattle.walks.specs.declared.list_walk.ListWalk.{ListWalk}
use Rattle.walks.specs.declared.protocol_names.ProtocolList.{ProtocolList}
use Rattle.walks.specs.declared.protocol_names.ProtocolNameWalk.{ProtocolNameWalk}
use Rattle.walks.specs.declared.slots.Lists.TheVariants.{Protocols}
use Rattle.walks.proofs.SlotLaws.{greatest_end, ledger_room, Answered, answered_value, answered_number, ledger_answered}
use Rattle.reads.specs.declared.answer.Question.TheVariants.{WalkState}
use Rattle.std.specs.Prelude.{Option, None, Some}
use Rattle.reads.specs.declared.answer.Question.{Question}

-- What holds of each way that a step over a list can go holds of the step.
module _ {A W : Type 0} (P : Handed A W → Type 0) (w : W) (refusing : (k : Question) → P (hands_back w k)) where
  pub by_asked : (o : Outcome (Unit {0})) {x : Handed A W} → P x → P (unless_refused o (hands_back w) x)
  by_asked (value u) h = h
  by_asked (absent r) h = h
  by_asked (refused k) h = refusing k

  pub by_list : {L : Type 0} (step : L → Handed A W) → ((l : L) → P (step l)) → ((r : Reason) → P (hands (absent r) w)) → (list : Outcome L) → P (over_list w step list)
  by_list step h missing (value l) = h l
  by_list step h missing (absent r) = missing r
  by_list step h missing (refused k) = refusing k

  pub by_cursor : {L : Type 0} (cursor : ℕ) (count : L → ℕ) (step : L → Handed A W) → ((l : L) → P (step l)) → ((r : Reason) → P (hands (absent r) w)) → (list : Outcome L)
      → P (from_cursor w cursor count step list)
  unfolding from_cursor
  by_cursor cursor count step h missing list = by_asked (question WalkState (leb cursor (count_by count list))) (by_list step h missing list)

-- A row step that settles an entry stands past the cursor that it was given.
abbrev pub RowMoves : ListWalk → ListWalk → Outcome ReachedRow → Type 0
RowMoves w v (value (row_reached r)) = w.cursor < v.cursor
RowMoves w v (value (row_skipped j r)) = w.cursor < v.cursor
RowMoves w v (value rows_finished) = Unit
RowMoves w v (absent r) = v ≡ w
RowMoves w v (refused k) = v ≡ w

pub record RowMoved (w : ListWalk) (x : RowLeft) : Type 0 where
  pub moves : RowMoves w x.walk x.answer

module _ (t : Tables) (w : ListWalk) where
  settled_moved : (j : ℕ) → w.cursor ≤ j → (o : Outcome Row) → RowMoved w (settles w j o)
  settled_moved j h (value r) = record { moves = omega arith }
  settled_moved j h (absent r) = record { moves = omega arith }
  settled_moved j h (refused k) = record { moves = refl }

  searched_moved : (h : Layout) (o : Option ℕ) → o ≡ first_readable (image_in t) h w.cursor → RowMoved w (searched t w h o)
  searched_moved h (Some j) e = settled_moved j (readables.found (image_in t) h w.cursor j (sym e)).from (row_at t h.kind (entry_address h j))
  searched_moved h None e = record { moves = tt }

  under_moved : RowMoved w (next_under t w)
  unfolding next_under over_rows
  under_moved =
      by_asked (RowMoved w) w (λ k. record { moves = refl }) (asked t)
      (by_cursor (RowMoved w) w (λ k. record { moves = refl }) w.cursor (λ h. h.count) _
      (λ h. searched_moved h (first_readable (image_in t) h w.cursor) refl) (λ r. record { moves = refl }) (list_at t w.kind w.list))

pub row_step_moved : (t : Tables) (w : ListWalk) → RowMoved w (next_of t w)
row_step_moved t w = under_moved (under w.setting t) w

-- A name step that takes a slot stands past it.
abbrev pub NameMoves : ProtocolNameWalk → ProtocolNameWalk → Outcome ReachedName → Type 0
NameMoves w v (value (name_reached name)) = w.cursor < v.cursor
NameMoves w v (value (name_passed r)) = w.cursor < v.cursor
NameMoves w v (value names_finished) = Unit
NameMoves w v (absent r) = v ≡ w
NameMoves w v (refused k) = v ≡ w

pub record NameMoved (w : ProtocolNameWalk) (x : NameLeft) : Type 0 where
  pub moves : NameMoves w x.walk x.answer

module _ (t : Tables) (w : ProtocolNameWalk) where
  named_moved : (o : Outcome Text) → NameMoved w (named w o)
  named_moved (value name) = record { moves = omega arith }
  named_moved (absent r) = record { moves = omega arith }
  named_moved (refused k) = record { moves = refl }

  slot_moved : (l : ProtocolList) → NameMoved w (step_in t w l)
  unfolding step_in
  slot_moved l = by_choose (NameMoved w) (λ e. named_moved (name_in t (slot_in l w.cursor))) (λ e. record { moves = tt })

  name_under_moved : NameMoved w (next_name_under t w)
  unfolding next_name_under over_names
  name_under_moved =
      by_asked (NameMoved w) w (λ k. record { moves = refl }) (asked t)
      (by_cursor (NameMoved w) w (λ k. record { moves = refl }) w.cursor (λ l. l.count) (step_in t w) slot_moved (λ r. record { moves = refl })
      (protocol_list_at t w.list))

pub name_step_moved : (t : Tables) (w : ProtocolNameWalk) → NameMoved w (next_name t w)
name_step_moved t w = name_under_moved (under w.setting t) w

-- A section step goes a slot further or takes what waits; it leaves the walk as given where that has finished. No section step is absent.
pub data Further (w : Walk) : Walk → Type 0 where
  past_slot : {v : Walk} → v.slot ≡ w.slot + 1 → Further w v
  past_waiting : (w.waiting ≡ 0 → ⊥) → Further w (walk w.slot w.used w.highest 0)

abbrev pub SectionMoves : {A : Type 0} → Walk → Walk → Outcome (Step A) → Type 0
SectionMoves w v (value (found a)) = Further w v
SectionMoves w v (value (passed r)) = Further w v
SectionMoves w v (value dropped) = Further w v
SectionMoves w v (value finished) = v ≡ w
SectionMoves w v (absent r) = ⊥
SectionMoves w v (refused k) = v ≡ w

pub record SectionMoved {A : Type 0} (w : Walk) (x : Left A) : Type 0 where
  pub moves : SectionMoves w x.walk x.answer

-- What holds of each way that a section step can go holds of the step.
module _ {A : Type 0} (P : Left A → Type 0) (w : Walk) (l : List ℕ) (refusing : (k : Question) → P (stays w l k)) where
  by_question : (o : Outcome (Unit {0})) (x : Left A) → P x → P (unless_refused o (stays w l) x)
  by_question (value u) x h = h
  by_question (absent r) x h = h
  by_question (refused k) x h = refusing k

  by_record_lem : (after : A → ℕ) (on : ℕ → Walk) (new : List ℕ) → ((a : A) → P (leaves (value (found a)) (on (after a)) new)) → ((r : Reason) → P (leaves (value (passed r)) (on 0) new))
      → (o : Outcome A) → P (by_record w l after on new o)
  by_record_lem after on new f p (value a) = f a
  by_record_lem after on new f p (absent r) = p r
  by_record_lem after on new f p (refused k) = refusing k

  by_slot_lem : (decode : ℕ → Left A) → ((a : ℕ) → P (decode a)) → P (leaves (value dropped) (walk (w.slot + 1) w.used w.highest 0) l) → P (leaves (value finished) w l)
      → (x : TakenSlot) → P (by_slot w l decode x)
  by_slot_lem decode h p f (address a) = h a
  by_slot_lem decode h p f slot_dropped = p
  by_slot_lem decode h p f no_slot = f
  by_slot_lem decode h p f (slot_refused k) = refusing k

module _ {A : Type 0} (k : Kind A) (t : Tables) (w : Walk) (l : List ℕ) where
  -- An address is first met where the ledger has a word for it.
  by_step : (P : Left A → Type 0) → ((n : Question) → P (stays w l n)) → P (leaves (value finished) w l)
      → ((a : ℕ) → w.used < length l → P (take_new k t w l a)) → P (leaves (value dropped) (walk (w.slot + 1) w.used w.highest 0) l)
      → ((w.waiting ≡ 0 → ⊥) → P (take_waiting k t w l)) → P (step_of k t w l)
  unfolding step_of step_by take_slot slot_taken
  by_step P refusing end new drop waited = go refl (ledger_answered t (slots_in k t) w.slot w.used (length l))
    where
      before : ℕ → Bool
      before = met_below w.highest (met_in w l)

      taken : (w.slot ≤ length (slots_in k t)) × (w.used ≤ w.slot) × (length (slots_in k t) ≤ length l)
          → P (by_slot w l (take_new k t w l) (first_met before (slot_taken t (slots_in k t) w.slot)))
      taken r =
          by_choose (λ (x : TakenSlot). P (by_slot w l (take_new k t w l) (first_met before x))) (λ e. end)
          (λ e. by_slot_lem P w l refusing (take_new k t w l)
          (λ a. new a (omega (arith, eqb-false w.slot (length (slots_in k t)) e, r.0, r.1, r.2))) drop end (first_met before (taken_by (address_in t (get_or (slots_in k t) w.slot 0)))))

      go : {o : Outcome (Unit {0})} → asked_ledger t (slots_in k t) w.slot w.used (length l) ≡ o → Answered o
          → P (unless_refused o (stays w l) (choose (eqb w.waiting 0) (take_slot before k t w l) (take_waiting k t w l)))
      go e (answered_value u) =
          by_choose P (λ z. taken (ledger_room (slots_in k t) t w.slot w.used (length l) e)) (λ z. waited (eqb-false w.waiting 0 z))
      go e (answered_number n) = refusing n

  pub section_step_moved : SectionMoved w (step_of k t w l)
  unfolding take_new take_waiting
  section_step_moved =
      by_step (SectionMoved w) (λ n. record { moves = refl }) (record { moves = refl })
      (λ a r. by_record_lem (SectionMoved w) w l (λ n. record { moves = refl }) k.after (walk (w.slot + 1) (w.used + 1) (max w.highest a)) (set l w.used a)
      (λ c. record { moves = past_slot refl }) (λ why. record { moves = past_slot refl }) (k.decoded t a))
      (record { moves = past_slot refl })
      (λ h. by_record_lem (SectionMoved w) w l (λ n. record { moves = refl }) (λ c. 0) (walk w.slot w.used w.highest) l
      (λ c. record { moves = past_waiting h }) (λ why. record { moves = past_waiting h }) (k.waited t w.waiting))

  -- As many words are left in the ledger as there were.
  pub step_keeps_length : length (step_of k t w l).ledger ≡ length l
  unfolding take_new take_waiting
  step_keeps_length =
      by_step (λ x. length x.ledger ≡ length l) (λ n. refl) refl
      (λ a r. by_record_lem (λ x. length x.ledger ≡ length l) w l (λ n. refl) k.after (walk (w.slot + 1) (w.used + 1) (max w.highest a)) (set l w.used a)
      (λ c. length-set l w.used a) (λ why. length-set l w.used a) (k.decoded t a))
      refl
      (λ h. by_record_lem (λ x. length x.ledger ≡ length l) w l (λ n. refl) (λ c. 0) (walk w.slot w.used w.highest) l (λ c. refl) (λ why. refl) (k.waited t w.waiting))

  -- Where the highest address met is the greatest word in use it stays so.
  pub highest_kept : Highest w l → Highest (step_of k t w l).walk (step_of k t w l).ledger
  unfolding take_new take_waiting
  highest_kept h =
      by_step Kept (λ n. h) h
      (λ a r. by_record_lem Kept w l (λ n. h) k.after (walk (w.slot + 1) (w.used + 1) (max w.highest a)) (set l w.used a)
      (λ c. noted a r) (λ why. noted a r) (k.decoded t a))
      h
      (λ z. by_record_lem Kept w l (λ n. h) (λ c. 0) (walk w.slot w.used w.highest) l (λ c. h) (λ why. h) (k.waited t w.waiting))
    where
      Kept : Left A → Type 0
      Kept x = Highest x.walk x.ledger

      noted : (a : ℕ) → w.used < length l → max w.highest a ≡ greatest (take (w.used + 1) (set l w.used a))
      noted a r = rw (add-one, take-suc-set l w.used a r, greatest_end (met_in w l) a, h)

  pub highest_after : {v : Walk} {m : List ℕ} {o : Outcome (Step A)} → Highest w l → step_of k t w l ≡ leaves o v m → Highest v m
  highest_after h e = subst (λ (x : Left A). Highest x.walk x.ledger) e (highest_kept h)

module _ (t : Tables) (w : Walk) (l : List ℕ) where
  abbrev one_on : Walk
  one_on = walk (w.slot + 1) w.used w.highest 0

  by_protocol_step : (P : Left ObjcProtocol → Type 0) → ((n : Question) → P (stays w l n)) → P (leaves (value finished) w l)
      → ((p : ObjcProtocol) → P (leaves (value (found p)) one_on l)) → ((r : Reason) → P (leaves (value (passed r)) one_on l)) → P (leaves (value dropped) one_on l)
      → P (protocol_step_of t w l)
  unfolding protocol_step_of take_protocol
  by_protocol_step P refusing end gives pass drop =
      by_question P w l refusing (asked_slot t (slots_of Protocols t.sections) w.slot w.used) _
      (by_slot_lem P w l refusing (take_protocol t w l) (λ a. by_record_lem P w l refusing (λ p. 0) (walk (w.slot + 1) w.used w.highest) l gives pass (protocol_at t a)) drop end
      (slot_taken t (slots_of Protocols t.sections) w.slot))

  pub protocol_step_moved : SectionMoved w (protocol_step_of t w l)
  protocol_step_moved =
      by_protocol_step (SectionMoved w) (λ n. record { moves = refl }) (record { moves = refl }) (λ p. record { moves = past_slot refl })
      (λ why. record { moves = past_slot refl }) (record { moves = past_slot refl })

  -- The ledger is left as it was.
  pub protocol_step_keeps : (protocol_step_of t w l).ledger ≡ l
  protocol_step_keeps = by_protocol_step (λ x. x.ledger ≡ l) (λ n. refl) refl (λ p. refl) (λ why. refl) refl
