-- The slots, gone over without a ledger, meet the categories of the plain definition: the rows of both are the same, in the same order.
use Prim.Native.Nat.{ℕ, zero, suc, ◌+◌, ◌<◌, ◌≤◌}
use mathlib.Core.Path.{◌≡◌, refl, sym, ap, ◌∙◌}
use mathlib.Core.Bool.{Bool, true, false, ◌||◌, or-false}
use mathlib.Core.List.{List, [], ◌∷◌, ◌++◌}
use native.Mathlib.Omega.{arith}
use native.Mathlib.Numerals.{add-one}
use lib.Dec.{eqb}
use lib.ListN.{length, get_or, take, drop, drop_of_length-le}
use lib.Seq.{take-suc}
use borrow.Author.Tests.{ne_eqb, eqb-true}
use Rattle.reads.specs.Outcome.{Outcome, value, absent}
use Rattle.reads.specs.declared.answer.Reason.{Reason}
use Rattle.std.specs.Prelude.{Option, Some, None}
use Rattle.reads.proofs.Tests.{by_choose, choose_true, choose_false}
use Rattle.pointers.specs.Tables.{Tables}
use Rattle.records.specs.Category.{category_at}
use Rattle.records.specs.declared.category.ObjcCategory.{ObjcCategory}
use Rattle.records.specs.declared.class.ObjcClass.{ObjcClass}
use Rattle.walks.specs.Gather.{gather, of_value, present}
use Rattle.walks.specs.Slots.{address_in, among}
use Rattle.walks.specs.PlainSections.{addresses_in, once, plain_categories}
use Rattle.walks.proofs.Gathers.{Parts, gather_none, gather_parts, Held, held_one, held_none, present_held}
use Rattle.walks.proofs.SlotLaws.{among_end}
use Rattle.walks.proofs.PlainWalks.{unseen, unseen_none, once_none, once_met, once_new, slots_from_lem}
use Rattle.dispatch.specs.declared.sources.Side.{Side}
use Rattle.dispatch.specs.declared.sources.Source.{Source}
use Rattle.dispatch.specs.Sources.{own_source, category_source, of_class}
use Rattle.dispatch.specs.Appearances.{Rows, ended, source_rows, part_rows, category_rows, appearances}
use Rattle.reads.specs.Text.{or_none}
use Rattle.dispatch.specs.SlotSources.{category_slots, listed_at, held, held_before, taking, slot_source, slot_rows, slot_total, slot_appearances, settled, records_in}
use Rattle.dispatch.proofs.Held.{address_nonzero, held_total, held_listed}
use Rattle.dispatch.proofs.Asking.{settled_value, plain_came, records_plain}
use Rattle.dispatch.proofs.Matches.{MatchedRows, matched_none, matches_later, source_matched}

module _ (t : Tables) (s : Side) (class : ℕ) where
  abbrev slots : List ℕ
  slots = category_slots t.sections

  -- No row comes of it.
  abbrev Idle : Outcome (Option Source) → Type 0
  Idle o = (n : ℕ) (rest : Rows) → part_rows t n o rest ≡ rest

  -- One slot.
  module _ (k n : ℕ) where
    slot_none : Idle (slot_source t s class k) → slot_rows t s class k (suc n) ≡ slot_rows t s class (suc k) n
    unfolding slot_rows
    slot_none e = e (suc k) (slot_rows t s class (suc k) n)

    slot_one : {x : Source} → slot_source t s class k ≡ value (Some x) → slot_rows t s class k (suc n) ≡ source_rows t (suc k) (value x) (slot_rows t s class (suc k) n)
    unfolding slot_rows
    slot_one e = rw e

  module _ (k : ℕ) where
    source_unlisted : {why : Reason} → listed_at t k ≡ absent why → Idle (slot_source t s class k)
    unfolding slot_source
    source_unlisted e n rest = rw e

    module _ (va : ℕ) (e : listed_at t k ≡ value va) where
      source_undecoded : {why : Reason} → category_at t va ≡ absent why → Idle (slot_source t s class k)
      unfolding slot_source
      source_undecoded g n rest = rw (e, g)

      module _ (c : ObjcCategory) (g : category_at t va ≡ value c) where
        slot_taken : slot_source t s class k ≡ value (taking t s class k va c)
        unfolding slot_source
        slot_taken = rw (e, g)

        source_met : held_before t k va ≡ true → Idle (slot_source t s class k)
        source_met h n rest =
            let none : taking t s class k va c ≡ None =
            unfold taking in rw h (by_choose (λ (o : Option Source). o ≡ None) (λ _. choose_true _ _ refl) (λ _. refl)) in
            rw (slot_taken, none)

        source_other : eqb c.class_address class ≡ false → Idle (slot_source t s class k)
        source_other h n rest =
            let none : taking t s class k va c ≡ None = unfold taking in choose_false _ _ h in
            rw (slot_taken, none)

        source_new : held_before t k va ≡ false → eqb c.class_address class ≡ true → slot_source t s class k ≡ value (Some (category_source s c))
        unfolding taking
        source_new h q = rw slot_taken (ap (λ (o : Option Source). value o) (choose_true _ _ q ∙ choose_false _ _ h))

  -- What was seen, by one slot more.
  abbrev Seen : ℕ → List ℕ → Type 0
  Seen k seen = (va : ℕ) → (va ≡ 0 → ⊥) → held_before t k va ≡ among va seen

  module _ (k : ℕ) (h : k < slot_total t) (seen : List ℕ) (f : Seen k seen) where
    held_more : (va : ℕ) → held_before t (suc k) va ≡ (held_before t k va || eqb (or_none (listed_at t k)) va)
    unfolding held_before
    held_more va =
        let l : k < length (held t) = omega (arith, held_total t) in
        rw (take-suc (held t) k 0 l, among_end va (take k (held t)) (get_or (held t) k 0), held_listed t k h)

    seen_none : {why : Reason} → listed_at t k ≡ absent why → Seen (suc k) seen
    seen_none e va n = held_more va ∙ rw (e, ne_eqb 0 va (λ q. n (sym q)), or-false (held_before t k va)) (f va n)

    seen_again : {va : ℕ} → listed_at t k ≡ value va → among va seen ≡ true → Seen (suc k) seen
    seen_again {va} e m v n = held_more v ∙ rw (e, f v n) (go (eqb va v) refl)
      where
        go : (x : Bool) → eqb va v ≡ x → (among v seen || x) ≡ among v seen
        go true q = let w : among v seen ≡ true = ap (λ (y : ℕ). among y seen) (sym (eqb-true va v q)) ∙ m in rw w
        go false q = or-false (among v seen)

    seen_new : {va : ℕ} → listed_at t k ≡ value va → Seen (suc k) (seen ++ (va ∷ []))
    seen_new {va} e v n = held_more v ∙ rw (e, f v n) (sym (among_end v seen va))

  abbrev records : List ℕ → Outcome (List ObjcCategory)
  records addresses = gather (λ a. present (category_at t a)) addresses

  -- One category more in front.
  in_front : (i : ℕ) (c : ObjcCategory) (cs : List ObjcCategory) → eqb c.class_address class ≡ true
      → category_rows t s i (of_class class (c ∷ cs)) ≡ source_rows t (suc i) (value (category_source s c)) (category_rows t s (suc i) (of_class class cs))
  unfolding of_class category_rows
  in_front i c cs e = rw (choose_true (c ∷ of_class class cs) (of_class class cs) e)

  passed_over : (i : ℕ) (c : ObjcCategory) (cs : List ObjcCategory) → eqb c.class_address class ≡ false
      → category_rows t s i (of_class class (c ∷ cs)) ≡ category_rows t s i (of_class class cs)
  unfolding of_class
  passed_over i c cs e = rw (choose_false (c ∷ of_class class cs) (of_class class cs) e)

  no_more : (i : ℕ) → category_rows t s i (of_class class []) ≡ ended
  unfolding of_class category_rows
  no_more i = refl

  -- From slot k on, i categories of the class having come before.
  unfoldable Goes : ℕ → Type 0
  Goes n = (k i m : ℕ) (seen bs : List ℕ) (ds cs : List ObjcCategory) → k + n ≡ slot_total t → m ≤ k → addresses_in t (drop k slots) ≡ value bs
      → records_in t (drop k slots) ≡ value ds → records (unseen seen (once bs)) ≡ value cs → Seen k seen
      → MatchedRows m i (slot_rows t s class k n) (category_rows t s i (of_class class cs))

  module _ (n : ℕ) (go_on : Goes n) (k i m : ℕ) (seen bs : List ℕ) (ds : List ObjcCategory) (h : k + suc n ≡ slot_total t) (l : m ≤ k)
      (later : addresses_in t (drop (suc k) slots) ≡ value bs) (decoded : records_in t (drop (suc k) slots) ≡ value ds) (f : Seen k seen) where
    there : k < slot_total t
    there = omega arith

    -- The slot gives no source, and the plain definition nothing.
    skip : Idle (slot_source t s class k) → (next : List ℕ) (cs : List ObjcCategory) → records (unseen next (once bs)) ≡ value cs → Seen (suc k) next
        → MatchedRows m i (slot_rows t s class k (suc n)) (category_rows t s i (of_class class cs))
    unfolding Goes
    skip e next cs r g = rw (slot_none k n e) (go_on (suc k) i m next bs ds cs (omega arith) (omega arith) later decoded r g)

    -- It gives one, and so does the plain definition.
    take_part : (c : ObjcCategory) → slot_source t s class k ≡ value (Some (category_source s c)) → eqb c.class_address class ≡ true → (next : List ℕ) (cs : List ObjcCategory)
        → records (unseen next (once bs)) ≡ value cs → Seen (suc k) next
        → MatchedRows m i (slot_rows t s class k (suc n)) (category_rows t s i (of_class class (c ∷ cs)))
    unfolding Goes
    take_part c e q next cs r g =
        let u : m < suc k = omega arith in
        let v : i < suc i = omega arith in
        rw (slot_one k n e, in_front i c cs q)
        (matches_later u v (source_matched t (suc k) (suc i) (value (category_source s c)) (go_on (suc k) (suc i) (suc k) next bs ds cs (omega arith) (omega arith) later decoded r g)))

    -- A new address, by what is there.
    new_record : (va : ℕ) → listed_at t k ≡ value va → held_before t k va ≡ false → {o : Outcome ObjcCategory} {first cs : List ObjcCategory} → category_at t va ≡ o → Held o first
        → records (unseen (seen ++ (va ∷ [])) (once bs)) ≡ value cs
        → MatchedRows m i (slot_rows t s class k (suc n)) (category_rows t s i (of_class class (first ++ cs)))
    new_record va e new g (held_none why) r = skip (source_undecoded k va e g) (seen ++ (va ∷ [])) _ r (seen_new k there seen f e)
    new_record va e new {cs = cs} g (held_one c) r = go (eqb c.class_address class) refl
      where
        go : (x : Bool) → eqb c.class_address class ≡ x → MatchedRows m i (slot_rows t s class k (suc n)) (category_rows t s i (of_class class (c ∷ cs)))
        go true q = take_part c (source_new k va e c g new q) q (seen ++ (va ∷ [])) cs r (seen_new k there seen f e)
        go false q = rw (passed_over i c cs q) (skip (source_other k va e c g q) (seen ++ (va ∷ [])) cs r (seen_new k there seen f e))

    -- An address seen before.
    old_record : (va : ℕ) → listed_at t k ≡ value va → held_before t k va ≡ true → among va seen ≡ true → {o : Outcome ObjcCategory} {first : List ObjcCategory} → category_at t va ≡ o → Held o first
        → (cs : List ObjcCategory) → records (unseen seen (once bs)) ≡ value cs → MatchedRows m i (slot_rows t s class k (suc n)) (category_rows t s i (of_class class cs))
    old_record va e old a g (held_none why) cs r = skip (source_undecoded k va e g) seen cs r (seen_again k there seen f e a)
    old_record va e old a g (held_one c) cs r = skip (source_met k va e c g old) seen cs r (seen_again k there seen f e a)

    an_address : (va : ℕ) → listed_at t k ≡ value va → (va ≡ 0 → ⊥) → {first : List ObjcCategory} → present (category_at t va) ≡ value first
        → (cs : List ObjcCategory) → records (unseen seen (once (va ∷ bs))) ≡ value cs → MatchedRows m i (slot_rows t s class k (suc n)) (category_rows t s i (of_class class cs))
    an_address va e z p cs r = go (among va seen) refl
      where
        go : (x : Bool) → among va seen ≡ x → MatchedRows m i (slot_rows t s class k (suc n)) (category_rows t s i (of_class class cs))
        go true a = old_record va e (f va z ∙ a) a refl (present_held (category_at t va) p) cs (ap records (sym (once_met seen va bs a)) ∙ r)
        go false a =
            let d = gather_parts (λ a. present (category_at t a)) va (unseen (seen ++ (va ∷ [])) (once bs)) (ap records (sym (once_new seen va bs a)) ∙ r) in
            rw d.whole (new_record va e (f va z ∙ a) refl (present_held (category_at t va) d.of_first) d.of_second)

    a_slot : {o : Outcome ℕ} {first : List ℕ} {given : List ObjcCategory} → listed_at t k ≡ o → Held o first → ((va : ℕ) → o ≡ value va → va ≡ 0 → ⊥)
        → of_value o (λ va. present (category_at t va)) ≡ value given
        → (cs : List ObjcCategory) → records (unseen seen (once (first ++ bs))) ≡ value cs → MatchedRows m i (slot_rows t s class k (suc n)) (category_rows t s i (of_class class cs))
    a_slot e (held_none why) z p cs r = skip (source_unlisted k e) seen cs r (seen_none k there seen f e)
    a_slot e (held_one va) z p cs r = an_address va e (z va refl) p cs r

  slots_matched : (n : ℕ) → Goes n
  unfolding Goes slot_rows
  slots_matched zero k i m seen bs ds cs h l later decoded r f =
      let past : drop k slots ≡ [] = drop_of_length-le slots {i = k} (let q : length slots ≤ k = omega arith in q) in
      let none : bs ≡ [] = no_addresses (ap (addresses_in t) (sym past) ∙ later) in
      let gone : cs ≡ [] = no_records (ap records (sym (ap (λ (b : List ℕ). unseen seen (once b)) none ∙ once_none seen)) ∙ r) in
      rw (gone, no_more i) (record { rows = matched_none; ends = refl })
    where
      no_addresses : addresses_in t [] ≡ value bs → bs ≡ []
      no_addresses e = unfold addresses_in in gather_none (λ a. present (address_in t a)) e

      no_records : records [] ≡ value cs → cs ≡ []
      no_records e = gather_none (λ a. present (category_at t a)) e
  slots_matched (suc n) k i m seen bs ds cs h l later decoded r f =
      let q : k < length slots = omega arith in
      let cut : drop k slots ≡ get_or slots k 0 ∷ drop (suc k) slots = slots_from_lem slots k q ∙ ap (λ (j : ℕ). get_or slots k 0 ∷ drop j slots) (add-one k) in
      let a = addresses_parts (ap (addresses_in t) (sym cut) ∙ later) in
      let d = records_parts (ap (records_in t) (sym cut) ∙ decoded) in
      a_slot n (slots_matched n) k i m seen a.second d.second h l a.of_second d.of_second f
      at_slot (present_held (address_in t (get_or slots k 0)) a.of_first) (address_nonzero t (get_or slots k 0)) d.of_first cs
      (ap (λ (b : List ℕ). records (unseen seen (once b))) (sym a.whole) ∙ r)
    where
      at_slot : listed_at t k ≡ address_in t (get_or slots k 0)
      at_slot = unfold listed_at in refl

      addresses_parts : addresses_in t (get_or slots k 0 ∷ drop (suc k) slots) ≡ value bs → Parts (present (address_in t (get_or slots k 0))) (addresses_in t (drop (suc k) slots)) bs
      addresses_parts e = unfold addresses_in in gather_parts (λ a. present (address_in t a)) (get_or slots k 0) (drop (suc k) slots) e

      records_parts : records_in t (get_or slots k 0 ∷ drop (suc k) slots) ≡ value ds
          → Parts (of_value (address_in t (get_or slots k 0)) (λ va. present (category_at t va))) (records_in t (drop (suc k) slots)) ds
      records_parts e = unfold records_in in gather_parts (λ a. of_value (address_in t a) (λ va. present (category_at t va))) (get_or slots k 0) (drop (suc k) slots) e

-- Where the categories are listed, the rows by slots are those of the plain definition.
module _ (t : Tables) (s : Side) (c : ObjcClass) (cs : List ObjcCategory) (e : plain_categories t ≡ value cs) where
  pub slots_plain : MatchedRows 0 0 (slot_appearances t s c) (appearances t s cs c)
  unfolding slot_appearances appearances
  slots_plain =
      let p = plain_came t cs e in
      let d = settled_value (records_in t (category_slots t.sections)) (records_plain t p.0 p.1 ∙ ap settled e) in
      source_matched t 0 0 (own_source t s c)
      (slots_from_first (slot_total t) 0 0 0 [] p.0 d.0 cs (omega arith) (omega arith) p.1 d.1
      (ap (gather (λ a. present (category_at t a))) (unseen_none (once p.0)) ∙ p.2) (λ va n. nothing va))
    where
      slots_from_first : (n k i m : ℕ) (seen bs : List ℕ) (ds cs : List ObjcCategory) → k + n ≡ slot_total t → m ≤ k → addresses_in t (drop k (category_slots t.sections)) ≡ value bs
          → records_in t (drop k (category_slots t.sections)) ≡ value ds → gather (λ a. present (category_at t a)) (unseen seen (once bs)) ≡ value cs
          → ((va : ℕ) → (va ≡ 0 → ⊥) → held_before t k va ≡ among va seen)
          → MatchedRows m i (slot_rows t s c.address k n) (category_rows t s i (of_class c.address cs))
      slots_from_first n = unfold Goes in slots_matched t s c.address n

      nothing : (va : ℕ) → held_before t 0 va ≡ among va []
      nothing va = unfold held_before in refl
