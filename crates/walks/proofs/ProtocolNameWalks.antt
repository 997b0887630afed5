-- Over tables that opening accepted, with the index as opening left it, no step over protocol names is refused, and the steps from the first
-- slot on say the names of the list in order and then that they are finished.
use Prim.Native.Nat.{ℕ, zero, suc, ◌+◌, ◌-◌, ◌≤◌, min}
use mathlib.Core.Path.{◌≡◌, refl, ap, ◌∙◌}
use mathlib.Core.Bool.{true, false}
use mathlib.Core.List.{List, [], ◌∷◌, ◌++◌, map}
use native.Mathlib.Omega.{arith}
use lib.ListN.{length, replicate}
use borrow.Author.Tests.{le-leb}
use Rattle.reads.specs.Outcome.{Outcome, value, absent, refused, Unrefused, a_value, an_absence, sum64, nonzero}
use Rattle.reads.specs.Place.{readable, word_in}
use Rattle.reads.specs.declared.text.Text.{Text}
use Rattle.reads.proofs.Outcomes.{then_came}
use Rattle.reads.proofs.Tests.{by_choose, choose_true, choose_false}
use Rattle.reads.proofs.Unrefused.{unrefused_then, sum_unrefused, nonzero_unrefused, readable_unrefused}
use Rattle.reads.specs.declared.answer.Reason.{Reason}
use Rattle.pointers.specs.Tables.{Tables, image_in}
use Rattle.pointers.specs.Open.{Opened}
use Rattle.pointers.proofs.Questions.{question_yes}
use Rattle.pointers.proofs.OpenedTables.{opened_asked}
use Rattle.walks.specs.declared.protocol_names.ProtocolList.{ProtocolList}
use Rattle.walks.specs.declared.protocol_names.ProtocolNameWalk.{ProtocolNameWalk}
use Rattle.walks.specs.Gather.{gather, of_value, present}
use Rattle.walks.specs.Handed.{hands, count_by, from_cursor, answers_of}
use Rattle.walks.specs.ProtocolNames.{protocol_list_at, decode_protocol_list, has_slot, slot_in, name_in, decode_name_in, walk_at, name_reached, name_passed, names_finished, NameLeft, slot_answer, named, step_in, over_names, next_name_under, next_name, slot_names, protocol_names, name_said, names_said}
use Rattle.records.specs.Ask.{even_list}
use Rattle.records.proofs.Headers.{even_unrefused}
use Rattle.records.proofs.Decodes.{unrefused}
use Rattle.walks.proofs.Gathers.{There, is_there, there_joined, there_of, there_present, there_known}
use Rattle.walks.proofs.ProtocolLists.{no_slot_from_count}
use Rattle.reads.specs.declared.answer.Question.TheVariants.{WalkState}

pub protocol_list_unrefused : (t : Tables) (va : ℕ) → Unrefused (protocol_list_at t va)
unfolding decode_protocol_list
protocol_list_unrefused t va =
    unrefused_then _ (nonzero_unrefused va) (λ _.
    unrefused_then _ (even_unrefused va) (λ _.
    unrefused_then _ (readable_unrefused (image_in t) va 8) (λ p.
    unrefused_then _ (sum_unrefused va 8) (λ base. a_value _))))

-- A list has at most 1,048,576 slots.
pub list_at_most : (t : Tables) (va : ℕ) (l : ProtocolList) → protocol_list_at t va ≡ value l → l.count ≤ 1048576
unfolding decode_protocol_list
list_at_most t va l e =
    let a = then_came (nonzero va) _ l e in
    let b = then_came (even_list va) _ l a.2 in
    let p = then_came (readable (image_in t) va 8) _ l b.2 in
    let s = then_came (sum64 va 8) _ l p.2 in
    let h : min (word_in t.files 8 p.0 0) 1048576 ≡ l.count = cc in
    omega arith

-- At most k of k slots are there.
pub slots_at_most : (t : Tables) (l : ProtocolList) (k i : ℕ) → length (slot_names t l i k) ≤ k
unfolding slot_names
slots_at_most t l zero i = omega arith
slots_at_most t l (suc k) i =
    let h = slots_at_most t l k (i + 1) in
    by_choose (λ (os : List (Outcome Text)). length os ≤ suc k) (λ e. omega arith) (λ e. omega arith)

-- Without a number the walk goes one slot on.
named_on : (w : ProtocolNameWalk) {x : Outcome Text} → Unrefused x → named w x ≡ hands (slot_answer x) (walk_at w.setting w.list (w.cursor + 1))
named_on w (a_value name) = refl
named_on w (an_absence r) = refl

answer_unrefused : {x : Outcome Text} → Unrefused x → Unrefused (slot_answer x)
answer_unrefused (a_value name) = a_value (name_reached name)
answer_unrefused (an_absence r) = a_value (name_passed r)

-- The names among the answers for slots are the names among the slots.
none_finished : (n : ℕ) → names_said (replicate n (value names_finished)) ≡ value []
unfolding names_said gather
none_finished zero = refl
none_finished (suc n) = rw (none_finished n)

slot_says : (o : Outcome Text) → of_value (slot_answer o) (λ r. value (name_said r)) ≡ present o
slot_says (value name) = refl
slot_says (absent r) = refl
slot_says (refused k) = refl

names_of_slots : (os : List (Outcome Text)) (n : ℕ)
    → names_said (map slot_answer os ++ replicate n (value names_finished)) ≡ gather present os
unfolding names_said gather
names_of_slots [] n = none_finished n
names_of_slots (o ∷ os) n = rw (slot_says o, names_of_slots os n)

module _ (t : Tables) (o : Opened t) where
  pub name_in_unrefused : (a : ℕ) → Unrefused (name_in t a)
  name_in_unrefused a = unrefused t o (decode_name_in a)

  -- The names of a list's slots, and of a list, are there.
  slots_there_lem : (l : ProtocolList) (k i : ℕ) → There (gather present (slot_names t l i k))
  unfolding slot_names gather
  slots_there_lem l zero i = is_there []
  slots_there_lem l (suc k) i =
      by_choose (λ (os : List (Outcome Text)). There (gather present os))
      (λ e. there_joined (there_present (name_in_unrefused (slot_in l i))) (slots_there_lem l k (i + 1)))
      (λ e. is_there [])

  pub names_there : (va : ℕ) → There (protocol_names t va)
  unfolding protocol_names
  names_there va = there_of _ (protocol_list_unrefused t va) (λ l. slots_there_lem l l.count 0)

  -- Every question passes.
  pub next_in : (w : ProtocolNameWalk) (l : ProtocolList) → protocol_list_at t w.list ≡ value l → w.cursor ≤ l.count → next_name_under t w ≡ step_in t w l
  unfolding next_name_under over_names from_cursor
  next_in w l e h = rw (opened_asked t o, e, question_yes WalkState _ (le-leb w.cursor l.count h))

  pub next_absent : (w : ProtocolNameWalk) (r : Reason) → protocol_list_at t w.list ≡ absent r → w.cursor ≤ 0 → next_name_under t w ≡ hands (absent r) w
  unfolding next_name_under over_names from_cursor
  next_absent w r e h = rw (opened_asked t o, e, question_yes WalkState _ (le-leb w.cursor 0 h))

  pub next_unrefused : (w : ProtocolNameWalk) → w.cursor ≤ count_by (λ l. l.count) (protocol_list_at t w.list) → Unrefused (next_name_under t w).answer
  unfolding step_in
  next_unrefused w h = go (protocol_list_at t w.list) refl (protocol_list_unrefused t w.list)
    where
      go : (x : Outcome ProtocolList) → protocol_list_at t w.list ≡ x → Unrefused x → Unrefused (next_name_under t w).answer
      go (value l) e u =
          rw (next_in w l e (rw e at h))
          (by_choose (λ (s : NameLeft). Unrefused s.answer)
          (λ f. rw (named_on w (name_in_unrefused (slot_in l w.cursor))) (answer_unrefused (name_in_unrefused (slot_in l w.cursor))))
          (λ f. a_value names_finished))
      go (absent r) e u = rw (next_absent w r e (rw e at h)) (an_absence r)
      go (refused _) e u = elim u [ ]

  -- The steps over a list that is there.
  module _ (list : ℕ) (l : ProtocolList) (there : protocol_list_at t list ≡ value l) where
    -- With no slot left each step says finished.
    no_slot_finished : (n i : ℕ) → i ≤ l.count → has_slot l i ≡ false → answers_of (next_name t) n (walk_at t.setting list i) ≡ replicate n (value names_finished)
    unfolding answers_of step_in
    no_slot_finished zero i h e = refl
    no_slot_finished (suc n) i h e =
        let next : next_name t (walk_at t.setting list i) ≡ hands (value names_finished) (walk_at t.setting list l.count) = next_in (walk_at t.setting list i) l there h ∙ choose_false _ _ e in
        let same : l.count ≤ l.count = omega arith in
        rw next (ap (λ rest. value names_finished ∷ rest) (no_slot_finished n l.count same (no_slot_from_count l l.count same)))

    -- A slot that is there is said, and the walk goes one on.
    slot_said : (n i : ℕ) → i ≤ l.count → has_slot l i ≡ true
        → answers_of (next_name t) (suc n) (walk_at t.setting list i) ≡ slot_answer (name_in t (slot_in l i)) ∷ answers_of (next_name t) n (walk_at t.setting list (i + 1))
    unfolding answers_of step_in
    slot_said n i h e =
        let next : next_name t (walk_at t.setting list i) ≡ named (walk_at t.setting list i) (name_in t (slot_in l i)) = next_in (walk_at t.setting list i) l there h ∙ choose_true _ _ e in
        rw (next, named_on (walk_at t.setting list i) (name_in_unrefused (slot_in l i)))

    -- Each slot is said, in order, and then finished, n times in n more steps than there are slots.
    abbrev Said : ℕ → ℕ → List (Outcome Text) → Type 0
    Said i n os =
        (m : ℕ) → m ≡ length os + n → answers_of (next_name t) m (walk_at t.setting list i) ≡ map slot_answer os ++ replicate n (value names_finished)

    said_from : (k i n : ℕ) → i + k ≡ l.count → Said i n (slot_names t l i k)
    unfolding slot_names
    said_from zero i n h =
        λ m g. let f : m ≡ n = omega arith in rw f (no_slot_finished n i (omega arith) (no_slot_from_count l i (omega arith)))
    said_from (suc k) i n h =
        by_choose (Said i n)
        (λ e m g.
        let later = length (slot_names t l (i + 1) k) + n in
        let f : m ≡ suc later = omega arith in
        rw f (slot_said later i (omega arith) e
        ∙ ap (λ rest. slot_answer (name_in t (slot_in l i)) ∷ rest) (said_from k (i + 1) n (omega arith) later refl)))
        (λ e m g. let f : m ≡ n = omega arith in rw f (no_slot_finished n i (omega arith) e))

    pub slots_said_then_finished : (n : ℕ)
        → answers_of (next_name t) (length (slot_names t l 0 l.count) + n) (walk_at t.setting list 0)
        ≡ map slot_answer (slot_names t l 0 l.count) ++ replicate n (value names_finished)
    slots_said_then_finished n = said_from l.count 0 n (omega arith) (length (slot_names t l 0 l.count) + n) refl

    -- The list's names are there, no number, and count + 1 steps say exactly these.
    pub names_said_lem : (names : List Text) × (protocol_names t list ≡ value names) × (names_said (answers_of (next_name t) (l.count + 1) (walk_at t.setting list 0)) ≡ value names)
    unfolding protocol_names
    names_said_lem =
        let os = slot_names t l 0 l.count in
        let few = slots_at_most t l l.count 0 in
        let more = l.count + 1 - length os in
        let names = there_known (slots_there_lem l l.count 0) in
        (names.known, rw there names.is, ap names_said (said_from l.count 0 more (omega arith) (l.count + 1) (omega arith)) ∙ names_of_slots os more ∙ names.is)
