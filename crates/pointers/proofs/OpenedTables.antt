-- Over tables that opening accepted, with the index as opening left it, every later question passes, each lookup finds the slot's last
-- record, and no primitive gives 9, 18, 7 or 14.
use Prim.Native.Nat.{ℕ, ◌-◌, ◌*◌, ◌≤◌, ◌<◌}
use mathlib.Core.Path.{◌≡◌, refl, ap, ◌∙◌}
use mathlib.Core.Bool.{true}
use mathlib.Core.List.{List}
use native.Mathlib.Omega.{arith}
use lib.ListN.{length}
use borrow.Author.Tests.{le-leb}
use Rattle.reads.specs.Outcome.{Outcome, value, absent, refused, Unrefused, a_value, an_absence, or_zero}
use Rattle.reads.specs.Table.{records}
use Rattle.reads.specs.Place.{Image}
use Rattle.reads.specs.Address.{stripped}
use Rattle.reads.specs.declared.answer.Reason.TheVariants.{Unresolved}
use Rattle.reads.proofs.Outcomes.{then_came}
use Rattle.reads.proofs.Unrefused.{unrefused_then, unrefused_came, unrefused_because, unrefused_else, unrefused_zero, sum_unrefused, word_unrefused}
use Rattle.pointers.specs.Tables.{Tables, image_in, under, with_index, bind_words, rebase_words, chains, rebase_record, bind_record}
use Rattle.pointers.specs.Question.{bind_lent, bind_inside, bind_utf8, bind_files, names_inside, names_utf8, index_fits, asked_tables, asked_index, asked_lent, asked}
use Rattle.pointers.specs.ImageInfo.{image_info}
use Rattle.pointers.specs.Index.{indexed, bind_nexts, index_length}
use Rattle.pointers.specs.Chain.{follow, last_among, last_record}
use Rattle.pointers.specs.Sorted.{ascending}
use Rattle.pointers.specs.Symbol.{stripped_name}
use Rattle.pointers.specs.Slot.{rebase_number, rebase_at, bind_name, bind_at, symbol_of, symbol_at, stored, resolve, pointer_at, pointer_or0_at, rebase, slot, pointer, pointer_or0}
use Rattle.pointers.specs.Open.{asked_opening, opening, opened_index, Opened}
use Rattle.pointers.specs.declared.setting.Lookup.{Lookup}
use Rattle.pointers.specs.declared.setting.Lookup.TheVariants.{Chained, Sorted}
use Rattle.pointers.specs.declared.setting.Setting.{Setting}
use Rattle.pointers.proofs.Questions.{question_yes, asked_any_index, every_at}
use Rattle.pointers.proofs.Rooms.{Room, tables_room, asked_index_lem, Accepted, accepted_parts}
use Rattle.pointers.proofs.IndexWords.{length_indexed}
use Rattle.pointers.proofs.SortedLookups.{sorted_unrefused, sorted_last}
use Rattle.pointers.proofs.Chains.{rebase_last_wins, bind_last_wins, last_value, last_no_number}
use Rattle.reads.specs.declared.answer.Question.{Question}
use Rattle.reads.specs.declared.answer.Question.TheVariants.{NameInside, IndexLength, NameUtf8, FileLent}

-- Every bind name is in a file that is lent, inside it, and UTF-8.
name_unrefused : (files : List (List ℕ)) (binds : List ℕ) → bind_files files binds ≡ true → names_inside files binds ≡ true → names_utf8 files binds ≡ true
    → (i : ℕ) → i < records bind_words binds → Unrefused (bind_name files binds i)
unfolding bind_files names_inside names_utf8 bind_name
name_unrefused files binds d e g i h =
    rw (
      question_yes FileLent _ (every_at (bind_lent files binds) (records bind_words binds) d i h),
      question_yes NameInside _ (every_at (bind_inside files binds) (records bind_words binds) e i h),
      question_yes NameUtf8 _ (every_at (bind_utf8 files binds) (records bind_words binds) g i h),
    )
    (a_value (bind_record binds i).name)

last_unrefused : (width : ℕ) (table : List ℕ) (a n : ℕ) → Unrefused (last_among width table n a)
last_unrefused width table a n = go (last_among width table n a) (λ k e. last_no_number width table a n k e)
  where
    go : (o : Outcome ℕ) → ((k : Question) → o ≡ refused k → ⊥) → Unrefused o
    go (value k) f = a_value k
    go (absent r) f = an_absence r
    go (refused k) f = absurd (f k refl)

pub stored_unrefused : (m : Image) (a : ℕ) → Unrefused (stored m a)
unfolding stored
stored_unrefused m a = unrefused_then (λ w. value (stripped w)) (word_unrefused m 8 a) (λ w. a_value (stripped w))

-- The old tables are those that opening was lent.
module _ (t : Tables) (o : Opened t) where
  old : Tables
  old = with_index t o.index_before

  pub opened_accepted : Accepted (with_index t o.index_before)
  unfolding opening
  opened_accepted =
      let came = then_came (asked_opening (with_index t o.index_before)) _ o.gave o.accepted in
      accepted_parts (with_index t o.index_before) tt came.1

  pub opened_index_lem : t.index ≡ indexed t.rebases t.binds o.index_before
  unfolding opening opened_index
  opened_index_lem =
      let came = then_came (asked_opening (with_index t o.index_before)) _ o.gave o.accepted in
      o.left ∙ rw came.1

  pub opened_info : image_info t.info ≡ value o.gave
  unfolding opening
  opened_info = (then_came (asked_opening (with_index t o.index_before)) _ o.gave o.accepted).2

  room_before : index_length t.rebases t.binds ≤ length o.index_before
  room_before = asked_index_lem (with_index t o.index_before) tt opened_accepted.index_pass

  opened_length : length t.index ≡ length o.index_before
  opened_length = ap length opened_index_lem ∙ length_indexed t.rebases t.binds o.index_before room_before

  pub opened_room : Room t
  opened_room =
      let r = tables_room (with_index t o.index_before) tt opened_accepted.tables_pass in
      record {
        image_length = r.image_length;
        segment_count = r.segment_count;
        sections_fit = r.sections_fit;
        info_bytes = r.info_bytes;
        rebase_count = r.rebase_count;
        bind_count = r.bind_count;
      }

  -- Every question of a later call says yes.
  pub opened_asked : asked t ≡ value tt
  unfolding asked_lent asked_tables asked_index index_fits
  opened_asked =
      let e : asked_tables t ≡ value tt = asked_any_index t.files t.segments t.sections t.info t.rebases t.binds t.index o.index_before ∙ opened_accepted.tables_pass in
      rw e (question_yes IndexLength _ (le-leb (index_length t.rebases t.binds) (length t.index) (rw opened_length room_before)))

  -- A slot's last record wins, in each table.
  pub opened_follow_rebase : (a : ℕ) → follow rebase_words t.rebases 0 (2 * chains) a t.index ≡ last_record rebase_words t.rebases a
  opened_follow_rebase a = rw opened_index_lem (rebase_last_wins t.rebases t.binds o.index_before a)

  pub opened_follow_bind : (a : ℕ) → follow bind_words t.binds chains (bind_nexts t.rebases) a t.index ≡ last_record bind_words t.binds a
  opened_follow_bind a = rw opened_index_lem (bind_last_wins t.rebases t.binds o.index_before a)

  number_unrefused : (a : ℕ) (l : Lookup) → Unrefused (rebase_number l t.rebases t.index a)
  number_unrefused a Chained = rw (opened_follow_rebase a) (last_unrefused rebase_words t.rebases a (records rebase_words t.rebases))
  number_unrefused a Sorted = sorted_unrefused t.rebases a

  pub rebase_unrefused : (a : ℕ) → Unrefused (rebase t a)
  unfolding rebase_at
  rebase_unrefused a =
      unrefused_then (λ n. value (rebase_record t.rebases (n - 1)).target) (number_unrefused a t.setting.lookup)
      (λ n. a_value (rebase_record t.rebases (n - 1)).target)

  -- Where slots ascend, halves find what the chain finds.
  number_either : ascending t.rebases ≡ true → (a : ℕ) (l : Lookup) → rebase_number l t.rebases t.index a ≡ last_record rebase_words t.rebases a
  number_either e a Chained = opened_follow_rebase a
  number_either e a Sorted = sorted_last t.rebases e a opened_room.rebase_count

  pub rebase_by_either : ascending t.rebases ≡ true → (s : Setting) (a : ℕ) → rebase_at t.rebases t.index s a ≡ rebase t a
  unfolding rebase_at
  rebase_by_either e s a = rw (number_either e a s.lookup, number_either e a t.setting.lookup)

  pub bind_unrefused : (a : ℕ) → Unrefused (bind_at t.files t.rebases t.binds t.index a)
  unfolding bind_at
  bind_unrefused a =
      rw (opened_follow_bind a)
      (unrefused_came (λ n. bind_name t.files t.binds (n - 1)) (last_unrefused bind_words t.binds a (records bind_words t.binds))
      (λ n e. let l = last_value bind_words t.binds a (records bind_words t.binds) n e in
      name_unrefused t.files t.binds opened_accepted.names_lent opened_accepted.names_in opened_accepted.names_good (n - 1) (omega (arith, l.first, l.counted))))

  pub symbol_unrefused : (a : ℕ) → Unrefused (symbol_at t a)
  unfolding symbol_of
  symbol_unrefused a =
      unrefused_then (λ name. value (stripped_name t.files name)) (bind_unrefused a) (λ name. a_value (stripped_name t.files name))

  pub slot_unrefused : (a : ℕ) → Unrefused (slot t a)
  unfolding resolve
  slot_unrefused a = unrefused_because Unresolved (unrefused_else (rebase_unrefused a) (stored_unrefused (image_in t) a))

  pub pointer_unrefused : (va k : ℕ) → Unrefused (pointer t va k)
  unfolding pointer_at
  pointer_unrefused va k = unrefused_then (resolve (image_in t) t.rebases t.index t.setting) (sum_unrefused va k) slot_unrefused

  pub pointer_or_0_unrefused : (va k : ℕ) → Unrefused (pointer_or0 t va k)
  unfolding pointer_or0_at
  pointer_or_0_unrefused va k =
      unrefused_then (λ a. or_zero (resolve (image_in t) t.rebases t.index t.setting a)) (sum_unrefused va k) (λ a. unrefused_zero (slot_unrefused a))

-- Opening asks nothing of the setting: what is opened is opened under every one.
pub opened_under : {t : Tables} (s : Setting) → Opened t → Opened (under s t)
unfolding opening asked_opening asked_tables asked_index opened_index
opened_under s o = record { index_before = o.index_before; gave = o.gave; accepted = o.accepted; left = o.left }
