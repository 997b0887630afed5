-- What comes back and what the lent buffer holds, where items of a text are handed out, by the questions that are asked.
use Prim.Native.Nat.{ℕ, ◌*◌, ◌≤◌}
use native.Mathlib.Omega.{arith}
use mathlib.Core.Path.{◌≡◌, refl, ap, sym, ◌∙◌}
use mathlib.Core.Bool.{Bool, true, false}
use mathlib.Core.List.{List}
use lib.ListN.{length}
use borrow.Author.Tests.{leb-true}
use Rattle.std.specs.Prelude.{Result, Ok, Err}
use Rattle.reads.specs.Answer.{missed, outcome}
use Rattle.reads.specs.Outcome.{Outcome, value, absent, refused, and_then, choose}
use Rattle.reads.specs.Utf8.{Verdict, verdict}
use Rattle.reads.specs.declared.answer.Missing.{Missing}
use Rattle.reads.specs.declared.answer.Missing.TheVariants.{Absent, Refused}
use Rattle.reads.specs.declared.answer.Question.TheVariants.{ItemRoom}
use Rattle.reads.proofs.Outcomes.{missed_then}
use Rattle.pointers.specs.Open.{left_by}
use Rattle.pointers.specs.Question.{question}
use Rattle.pointers.proofs.Questions.{question_yes}
use Rattle.attributes.specs.Attributes.{if_utf8, items_fit, handed_out, filled, Handed}
use Rattle.attributes.specs.declared.items.Item.{Item}

module _ {A : Type 0} (text : List ℕ) (is : List Item) (a : A) where
  module _ (room : ℕ) (u : verdict text ≡ Ok tt) where
    pub handed_value : items_fit (length is) room ≡ true → handed_out text is room a ≡ value a
    unfolding handed_out
    handed_value f = rw (u, question_yes ItemRoom _ f)

-- Where a value comes back, the text is UTF-8 and the items fit.
pub record Gave {A : Type 0} (text : List ℕ) (is : List Item) (room : ℕ) (a b : A) : Type 0 where
  pub utf8 : verdict text ≡ Ok tt
  pub fits : items_fit (length is) room ≡ true
  pub same : a ≡ b

pub gave : {A : Type 0} (text : List ℕ) (is : List Item) (room : ℕ) (a b : A) → handed_out text is room a ≡ value b → Gave text is room a b
unfolding handed_out question choose
gave {A} text is room a b e = go (verdict text) refl (items_fit (length is) room) refl e
  where
    go : (v : Verdict) → verdict text ≡ v → (t : Bool) → items_fit (length is) room ≡ t
        → if_utf8 v (and_then (choose t (value tt) (refused ItemRoom)) (λ (_ : Unit {0}). value a)) ≡ value b → Gave text is room a b
    go (Ok x) u true f q = record { utf8 = u; fits = f; same = unfold choose in cc }
    go (Ok x) u false f q = unfold choose in (let z : ◌≡◌ {A = ℕ} 0 1 = cc in absurd (omega arith))
    go (Err k) u t f q = let z : ◌≡◌ {A = ℕ} 0 1 = cc in absurd (omega arith)

-- What comes back with one value decides what comes back with another.
handed_again : {A B : Type 0} (text : List ℕ) (is : List Item) (room : ℕ) (a : A) (b : B)
    → handed_out text is room a ≡ and_then (handed_out text is room b) (λ (_ : B). value a)
unfolding handed_out question
handed_again {A} {B} text is room a b = go (verdict text) (items_fit (length is) room)
  where
    go : (v : Verdict) (t : Bool)
        → if_utf8 v (and_then (choose t (value tt) (refused ItemRoom)) (λ (_ : Unit {0}). value a))
        ≡ and_then (if_utf8 v (and_then (choose t (value tt) (refused ItemRoom)) (λ (_ : Unit {0}). value b))) (λ (_ : B). value a)
    go (Ok x) true = unfold choose in refl
    go (Ok x) false = unfold choose in refl
    go (Err k) t = refl

left_missing : (A : Type 0) (m : Missing) (new old : List ℕ) → left_by (missed {A = A} m) new old ≡ old
left_missing A (Absent r) new old = refl
left_missing A (Refused k) new old = refl

-- What one answer says and leaves, another over the same items does.
module _ {A B : Type 0} (text buffer : List ℕ) {is js : List Item} (a : A) (b : B) (same : is ≡ js) {o : Outcome A} {now : List ℕ} (h : Handed text buffer is a o now) where
  left_then : (x : Outcome A) (new old : List ℕ) → left_by (and_then x (λ (_ : A). value b)) new old ≡ left_by x new old
  left_then (value x) new old = refl
  left_then (absent r) new old = refl
  left_then (refused k) new old = refl

  again : handed_out text js (length buffer) b ≡ and_then o (λ (_ : A). value b)
  again = rw (← same, h.0) (handed_again text is (length buffer) b a)

  made : Handed text buffer js b (and_then o (λ (_ : A). value b)) now
  made =
      let left = h.1 ∙ ap (λ (x : Outcome A). left_by x (filled is buffer) buffer) (sym h.0) in
      (sym again, left ∙ rw (again, same) (sym (left_then o (filled js buffer) buffer)))

  pub made_missing : (m : Missing) → o ≡ missed m → Handed text buffer js b (missed m) now
  made_missing m e = rw (missed_then m (λ (_ : A). value b), ← e) made

  pub made_value : (x : A) → o ≡ value x → Handed text buffer js b (value b) now
  made_value x e = let is_value = ap (λ (y : Outcome A). and_then y (λ (_ : A). value b)) e in rw (← is_value) made

  pub made_count : (x : A) → o ≡ value x → x ≡ a
  made_count x e = sym (gave text is (length buffer) a x (sym h.0 ∙ e)).same

-- The code's tests: w is its count of the items that are handed out, where the text is UTF-8 and they fit.
module _ {A : Type 0} (text buffer : List ℕ) (is : List Item) (a : A) (w : Result A Missing) (g : outcome w ≡ handed_out text is (length buffer) a) where
  pub out_missing : (m : Missing) → w ≡ Err m → Handed text buffer is a (missed m) buffer
  out_missing m h =
      let e : missed m ≡ handed_out text is (length buffer) a = ap outcome (sym h) ∙ g in
      (e, rw (← e) (sym (left_missing A m (filled is buffer) buffer)))

  module _ (n : A) (h : w ≡ Ok n) where
    pub out_room : 3 * length is ≤ length buffer
    unfolding items_fit
    out_room = leb-true (3 * length is) (length buffer) (gave text is (length buffer) a n (sym g ∙ rw h)).fits

    pub out_value : {now : List ℕ} → now ≡ filled is buffer → Handed text buffer is a (value n) now
    out_value v = let e : value n ≡ handed_out text is (length buffer) a = ap outcome (sym h) ∙ g in (e, rw (← e) v)
