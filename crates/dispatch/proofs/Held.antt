-- The addresses in the slots of the categories.
use Prim.Native.Nat.{ℕ, zero, suc, ◌+◌, ◌<◌, ◌≤◌}
use mathlib.Core.Path.{◌≡◌, refl, sym, ap, ◌∙◌}
use mathlib.Core.Bool.{true, false}
use mathlib.Core.List.{List, [], ◌∷◌}
use native.Mathlib.Omega.{arith}
use lib.Dec.{eqb}
use lib.ListN.{length, get_or, take}
use borrow.Author.Tests.{eqb-true, eqb-false}
use Rattle.std.specs.Prelude.{Result, Ok, Err, Some, cond}
use Rattle.std.specs.Option.{option_eq}
use Rattle.std.specs.Result.{result_ok}
use Rattle.reads.specs.Answer.{outcome}
use Rattle.reads.specs.declared.answer.Missing.{Missing}
use Rattle.reads.specs.declared.answer.Missing.TheVariants.{Absent, Refused}
use Rattle.reads.specs.declared.answer.Reason.{Reason}
use Rattle.reads.proofs.Outcomes.{then_came}
use Rattle.reads.proofs.Tests.{by_choose}
use Rattle.records.specs.Decode.{run, or0, slot}
use Rattle.reads.specs.Outcome.{Outcome, value, absent, nonzero}
use Rattle.pointers.specs.Tables.{Tables}
use Rattle.walks.specs.Slots.{decode_address, address_in, among}
use Rattle.walks.proofs.SlotLaws.{among_other, among_word}
use Rattle.reads.specs.Text.{or_none}
use Rattle.dispatch.specs.SlotSources.{category_slots, listed_at, held_in, held, held_before, slot_total}

held_length : (t : Tables) (slots : List ℕ) → length (held_in t slots) ≡ length slots
unfolding held_in
held_length t [] = refl
held_length t (a ∷ slots) = ap suc (held_length t slots)

held_word : (t : Tables) (slots : List ℕ) (k : ℕ) → k < length slots → get_or (held_in t slots) k 0 ≡ or_none (address_in t (get_or slots k 0))
unfolding held_in
held_word t [] k h = absurd (omega arith)
held_word t (a ∷ slots) zero h = refl
held_word t (a ∷ slots) (suc k) h = held_word t slots k (omega arith)

-- No slot gives address 0.
pub address_nonzero : (t : Tables) (a va : ℕ) → address_in t a ≡ value va → va ≡ 0 → ⊥
unfolding decode_address
address_nonzero t a va e z =
    let p = then_came (run t (or0 (slot a))) _ va e in
    go p.0 p.2
  where
    no : {why : Reason} → ◌≡◌ {A = Outcome ℕ} (absent why) (value va) → ⊥
    no q = let z : ◌≡◌ {A = ℕ} 0 1 = cc in omega arith

    same : {x : ℕ} → ◌≡◌ {A = Outcome ℕ} (value x) (value va) → x ≡ va
    same q = cc

    go : (x : ℕ) → nonzero x ≡ value va → ⊥
    go x q =
        unfold nonzero in
        by_choose (λ (o : Outcome ℕ). o ≡ value va → ⊥) (λ _ h. no h) (λ g h. eqb-false x 0 g (same h ∙ z)) q

pub listed_nonzero : (t : Tables) (k : ℕ) {va : ℕ} → listed_at t k ≡ value va → va ≡ 0 → ⊥
unfolding listed_at
listed_nonzero t k {va} e = address_nonzero t (get_or (category_slots t.sections) k 0) va e

-- Whether an address is the one that a slot gave, if it gave one.
module _ (va : ℕ) where
  pub held_there : (r : Result ℕ Missing) {o : Outcome ℕ} → outcome r ≡ o → option_eq eqb (result_ok r) (Some va) ≡ true → or_none o ≡ va
  held_there (Ok a) e g = ap or_none (sym e) ∙ eqb-true a va g
  held_there (Err m) e g = let z : ◌≡◌ {A = ℕ} 0 1 = ap (λ b. cond b 1 0) g in absurd (omega arith)

  pub held_other : (r : Result ℕ Missing) {o : Outcome ℕ} → outcome r ≡ o → option_eq eqb (result_ok r) (Some va) ≡ false → (va ≡ 0 → ⊥) → or_none o ≡ va → ⊥
  held_other (Ok a) e g n q = eqb-false a va g (ap or_none e ∙ q)
  held_other (Err (Absent why)) e g n q = n (sym q ∙ ap or_none (sym e))
  held_other (Err (Refused k)) e g n q = n (sym q ∙ ap or_none (sym e))

module _ (t : Tables) where
  pub held_total : length (held t) ≡ slot_total t
  held_total = held_length t (category_slots t.sections)

  pub held_listed : (k : ℕ) → k < slot_total t → get_or (held t) k 0 ≡ or_none (listed_at t k)
  unfolding listed_at
  held_listed k h = held_word t (category_slots t.sections) k h

  -- The slots before k, one by one.
  pub held_here : (k va i : ℕ) → i < k → k ≤ slot_total t → {r : ℕ} → r ≡ or_none (listed_at t i) → r ≡ va → true ≡ held_before t k va
  unfolding held_before
  held_here k va i l h e g =
      sym (among_word va (held t) i k l (omega (arith, held_total)) (held_listed i (omega arith) ∙ sym e ∙ g))

  pub held_on : (va i : ℕ) → i < slot_total t → among va (take i (held t)) ≡ false → {r : ℕ} → r ≡ or_none (listed_at t i) → (r ≡ va → ⊥) → among va (take (i + 1) (held t)) ≡ false
  held_on va i l h e n =
      sym (among_other va (held t) i (omega (arith, held_total)) (λ g. n (e ∙ sym (held_listed i l) ∙ g))) ∙ h

  pub held_nowhere : (k va i : ℕ) → i ≡ k → among va (take i (held t)) ≡ false → false ≡ held_before t k va
  unfolding held_before
  held_nowhere k va i e h = sym (ap (λ (j : ℕ). among va (take j (held t))) (sym e) ∙ h)
