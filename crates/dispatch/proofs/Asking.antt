-- The numbers that the lookups of listed categories give: of all slots, then of all categories, each as often as it is listed; and that this
-- is the number of the plain definition.
use Prim.Native.Nat.{ℕ, ◌+◌, ◌<◌, ◌≤◌}
use mathlib.Core.Path.{◌≡◌, refl, sym, ap, ◌∙◌}
use mathlib.Core.Bool.{Bool, true, false}
use mathlib.Core.List.{List, [], ◌∷◌, ◌++◌}
use native.Mathlib.Omega.{arith}
use lib.Dec.{eqb}
use lib.ListN.{length, get_or, drop, drop_of_length-le}
use borrow.Author.Tests.{eqb-true}
use Rattle.reads.specs.Outcome.{Outcome, value, absent, refused, and_then}
use Rattle.reads.proofs.Outcomes.{then_came}
use Rattle.pointers.specs.Tables.{Tables}
use Rattle.records.specs.Category.{category_at}
use Rattle.records.specs.declared.category.ObjcCategory.{ObjcCategory}
use Rattle.walks.specs.Gather.{joined, gather, of_value, present}
use Rattle.walks.specs.Slots.{address_in}
use Rattle.walks.specs.PlainSections.{addresses_in, unless, without, once, listed, plain_categories}
use Rattle.walks.proofs.Gathers.{gather_none, gather_parts, Held, held_one, held_none, present_held}
use Rattle.walks.proofs.PlainWalks.{slots_from_lem}
use Rattle.dispatch.specs.Asking.{each_settled}
use Rattle.dispatch.specs.SlotSources.{category_slots, settled, records_in}
use Rattle.std.specs.Prelude.{Result, Ok, Err}
use Rattle.reads.specs.Answer.{answered}
use Rattle.reads.specs.declared.answer.Question.{Question}

-- A value is settled; what is joined to a value settles as the rest does.
pub settled_value : {A : Type 0} (o : Outcome A) → settled o ≡ value tt → (a : A) × (o ≡ value a)
settled_value (value a) e = (a, refl)
settled_value (absent why) e = let z : ◌≡◌ {A = ℕ} 0 1 = cc in absurd (omega arith)
settled_value (refused k) e = let z : ◌≡◌ {A = ℕ} 0 1 = cc in absurd (omega arith)

pub settled_number : {A : Type 0} (o : Outcome A) {k : Question} → settled o ≡ refused k → o ≡ refused k
settled_number (value a) e = let z : ◌≡◌ {A = ℕ} 0 1 = cc in absurd (omega arith)
settled_number (absent why) e = let z : ◌≡◌ {A = ℕ} 0 1 = cc in absurd (omega arith)
settled_number (refused j) e = ap (λ (o : Outcome (Unit {0})). refused (asked o)) e
  where
    asked : Outcome (Unit {0}) → Question
    asked (value a) = j
    asked (absent why) = j
    asked (refused i) = i

module _ {A : Type 0} where
  settled_second : (xs : List A) (p : Outcome (List A)) → settled (joined (value xs) p) ≡ settled p
  settled_second xs (value ys) = refl
  settled_second xs (absent why) = refl
  settled_second xs (refused k) = refl

  joined_on : (o p : Outcome (List A)) → settled o ≡ value tt → settled (joined o p) ≡ settled p
  joined_on (value xs) p e = settled_second xs p
  joined_on (absent why) p e = let z : ◌≡◌ {A = ℕ} 0 1 = cc in absurd (omega arith)
  joined_on (refused k) p e = let z : ◌≡◌ {A = ℕ} 0 1 = cc in absurd (omega arith)

  joined_same : (o p q : Outcome (List A)) → (settled o ≡ value tt → settled p ≡ settled q) → settled (joined o p) ≡ settled (joined o q)
  joined_same (value xs) p q f = settled_second xs p ∙ f refl ∙ sym (settled_second xs q)
  joined_same (absent why) p q f = refl
  joined_same (refused k) p q f = refl

-- One slot after the other.
module _ (s : ℕ → Outcome (Unit {0})) (slots : List ℕ) (k : ℕ) where
  pub each_next : k < length slots → s (get_or slots k 0) ≡ value tt → each_settled s (drop (k + 1) slots) ≡ each_settled s (drop k slots)
  unfolding each_settled
  each_next h e = sym (rw (slots_from_lem slots k h, e))

  pub each_stop : k < length slots → {n : Question} → s (get_or slots k 0) ≡ refused n → refused n ≡ each_settled s (drop k slots)
  unfolding each_settled
  each_stop h e = sym (rw (slots_from_lem slots k h, e))

  pub each_end : length slots ≤ k → value tt ≡ each_settled s (drop k slots)
  unfolding each_settled
  each_end h = sym (rw (drop_of_length-le slots h))

settled_gather : {A : Type 0} (f : ℕ → Outcome (List A)) (slots : List ℕ) → each_settled (λ a. settled (f a)) slots ≡ settled (gather f slots)
unfolding gather each_settled
settled_gather f [] = refl
settled_gather f (a ∷ slots) = rw (settled_gather f slots) (sym (settled_joined (f a) (gather f slots)))
  where
    settled_joined : {A : Type 0} (o p : Outcome (List A)) → settled (joined o p) ≡ and_then (settled o) (λ _. settled p)
    settled_joined (value xs) p = settled_second xs p
    settled_joined (absent why) p = refl
    settled_joined (refused k) p = refl

-- What the slots' lookups say together, and what their categories' do.
module _ (t : Tables) (a : Result (Unit {0}) Question) where
  pub all_slots : answered a ≡ each_settled (λ a. settled (present (address_in t a))) (category_slots t.sections) → answered a ≡ settled (addresses_in t (category_slots t.sections))
  unfolding addresses_in
  all_slots e = e ∙ settled_gather (λ a. present (address_in t a)) (category_slots t.sections)

  pub all_records : answered a ≡ each_settled (λ a. settled (of_value (address_in t a) (λ va. present (category_at t va)))) (category_slots t.sections)
      → answered a ≡ settled (records_in t (category_slots t.sections))
  unfolding records_in
  all_records e = e ∙ settled_gather (λ a. of_value (address_in t a) (λ va. present (category_at t va))) (category_slots t.sections)

-- Each once or as often as listed: the same number.
module _ {A : Type 0} (f : ℕ → Outcome (List A)) where
  without_same : (a : ℕ) → settled (f a) ≡ value tt → (bs : List ℕ) → settled (gather f (without a bs)) ≡ settled (gather f bs)
  unfolding gather without
  without_same a e [] = refl
  without_same a e (b ∷ bs) = go (eqb b a) refl (without_same a e bs)
    where
      go : (x : Bool) → eqb b a ≡ x → settled (gather f (without a bs)) ≡ settled (gather f bs)
          → settled (gather f (unless x b (without a bs))) ≡ settled (joined (f b) (gather f bs))
      go true g h = h ∙ sym (joined_on (f b) (gather f bs) (ap (λ (i : ℕ). settled (f i)) (eqb-true b a g) ∙ e))
      go false g h = unfold gather in joined_same (f b) (gather f (without a bs)) (gather f bs) (λ _. h)

  once_same : (bs : List ℕ) → settled (gather f (once bs)) ≡ settled (gather f bs)
  unfolding gather once
  once_same [] = refl
  once_same (a ∷ bs) =
      joined_same (f a) (gather f (without a (once bs))) (gather f bs) (λ e. without_same a e (once bs) ∙ once_same bs)

-- The categories in slots are those at the addresses in them.
records_of : (t : Tables) (l bs : List ℕ) → addresses_in t l ≡ value bs → records_in t l ≡ gather (λ a. present (category_at t a)) bs
unfolding addresses_in records_in gather
records_of t [] bs e = rw (gather_none (λ a. present (address_in t a)) e)
records_of t (a ∷ l) bs e =
    let p = gather_parts (λ a. present (address_in t a)) a l e in
    rw p.whole (by p.second refl (present_held (address_in t a) p.of_first) (records_of t l p.second p.of_second))
  where
    by : {o : Outcome ℕ} {xs : List ℕ} (ys : List ℕ) → address_in t a ≡ o → Held o xs → records_in t l ≡ gather (λ a. present (category_at t a)) ys
        → joined (of_value (address_in t a) (λ va. present (category_at t va))) (gather (λ a. of_value (address_in t a) (λ va. present (category_at t va))) l)
        ≡ gather (λ a. present (category_at t a)) (xs ++ ys)
    by ys g (held_one va) h = unfold gather records_in in rw (g) (ap (joined (present (category_at t va))) h)
    by ys g (held_none why) h = unfold gather records_in in rw (g) (joined_nothing (gather (λ a. of_value (address_in t a) (λ va. present (category_at t va))) l) ∙ h)
      where
        joined_nothing : (o : Outcome (List ObjcCategory)) → joined (value []) o ≡ o
        joined_nothing (value xs) = refl
        joined_nothing (absent why) = refl
        joined_nothing (refused k) = refl

module _ (t : Tables) where
  plain_of : (bs : List ℕ) → addresses_in t (category_slots t.sections) ≡ value bs → plain_categories t ≡ gather (λ a. present (category_at t a)) (once bs)
  unfolding plain_categories listed
  plain_of bs e = rw e

  pub plain_came : (cs : List ObjcCategory) → plain_categories t ≡ value cs
      → (bs : List ℕ) × (addresses_in t (category_slots t.sections) ≡ value bs) × (gather (λ a. present (category_at t a)) (once bs) ≡ value cs)
  unfolding plain_categories listed
  plain_came cs e =
      let a = then_came (and_then (addresses_in t (category_slots t.sections)) (λ addresses. value (once addresses))) _ cs e in
      let p = then_came (addresses_in t (category_slots t.sections)) (λ addresses. value (once addresses)) a.0 a.1 in
      (p.0, p.1, ap (gather (λ a. present (category_at t a))) (same p.2) ∙ a.2)
    where
      same : {xs ys : List ℕ} → ◌≡◌ {A = Outcome (List ℕ)} (value xs) (value ys) → xs ≡ ys
      same q = cc

  -- All slots can be looked up: then the categories' numbers are those of the plain definition.
  pub records_plain : (bs : List ℕ) → addresses_in t (category_slots t.sections) ≡ value bs → settled (records_in t (category_slots t.sections)) ≡ settled (plain_categories t)
  records_plain bs e =
      ap settled (records_of t (category_slots t.sections) bs e) ∙ sym (once_same (λ a. present (category_at t a)) bs) ∙ ap settled (sym (plain_of bs e))

  pub ask_records_by : (a b : Result (Unit {0}) Question) → answered a ≡ settled (addresses_in t (category_slots t.sections)) → a ≡ (Ok tt)
      → answered b ≡ settled (records_in t (category_slots t.sections)) → answered b ≡ settled (plain_categories t)
  ask_records_by a b e g h =
      let p = settled_value (addresses_in t (category_slots t.sections)) (sym e ∙ ap answered g) in
      h ∙ records_plain p.0 p.1

  pub ask_refused_by : (a : Result (Unit {0}) Question) {n : Question} → answered a ≡ settled (addresses_in t (category_slots t.sections)) → a ≡ Err n → refused n ≡ settled (plain_categories t)
  unfolding plain_categories listed
  ask_refused_by a e g = rw (settled_number (addresses_in t (category_slots t.sections)) (sym e ∙ ap answered g))
