-- What write_attributes gives and leaves in the lent buffer, by question ItemRoom.
use Prim.Native.Nat.{ℕ, ◌+◌, ◌≤◌, ◌<◌, ◌^◌}
use mathlib.Core.Path.{◌≡◌, refl, ap, sym, ◌∙◌}
use mathlib.Core.List.{List, [], ◌∷◌, ◌++◌}
use native.Mathlib.Omega.{arith}
use lib.ListN.{length, drop}
use lib.Seq.{sets-eq}
use borrow.Author.Tests.{le-leb, lt-leb}
use Rattle.reads.specs.Outcome.{value, refused}
use Rattle.pointers.proofs.Questions.{question_yes, question_no}
use Rattle.attributes.specs.Written.{written_text, written_of, written_left}
use Rattle.attributes.specs.Puts.{Put}
use Rattle.attributes.specs.declared.property.Declared.{Declared}
use Rattle.reads.specs.declared.answer.Question.TheVariants.{ItemRoom}

module _ (text : List ℕ) (d : Declared) (rows : List ℕ) where
  pub written_number : (room : ℕ) → room < length (written_text text d rows) → written_of text d rows room ≡ refused ItemRoom
  unfolding written_of
  written_number room h = rw (question_no ItemRoom _ (lt-leb (length (written_text text d rows)) room h))

  pub written_value : (room : ℕ) → length (written_text text d rows) ≤ room
      → written_of text d rows room ≡ value (length (written_text text d rows))
  unfolding written_of
  written_value room h = rw (question_yes ItemRoom _ (le-leb (length (written_text text d rows)) room h))

  pub number_left : (out : List ℕ) → length out < length (written_text text d rows) → written_left text d rows out ≡ out
  unfolding written_left
  number_left out h = rw (written_number (length out) h)

  pub value_left : (out : List ℕ) → length (written_text text d rows) ≤ length out
      → written_left text d rows out ≡ written_text text d rows ++ drop (length (written_text text d rows)) out
  unfolding written_left
  value_left out h = rw (written_value (length out) h)

  -- The code's first call, on no bytes of the buffer, says how long the text is; its second puts it there.
  module _ (out : List ℕ) {len : ℕ} {none : List ℕ} (p : Put (written_text text d rows) 0 [] len none) where
    empty : (l : List ℕ) → length l ≡ 0 → l ≡ []
    empty [] e = refl
    empty (b ∷ l) e = absurd (omega arith)

    unchanged : none ++ out ≡ out
    unchanged = ap (λ (l : List ℕ). l ++ out) (empty none p.same)

    pub asked_number : length (none ++ out) < len → (refused ItemRoom ≡ written_of text d rows (length out)) × (none ++ out ≡ written_left text d rows out)
    asked_number h =
        let more : length out < length (written_text text d rows) = omega (arith, p.ends, ap length unchanged) in
        (sym (written_number (length out) more), unchanged ∙ sym (number_left out more))

    pub asked_value : length out < 2 ^ 63 → len ≤ length (none ++ out) → {to : ℕ} {left : List ℕ}
        → Put (written_text text d rows) 0 (none ++ out) to left
        → (value len ≡ written_of text d rows (length out)) × (left ≡ written_left text d rows out)
    asked_value small h q =
        let t = written_text text d rows in
        let same = ap length unchanged in
        let size : len ≡ length t = omega (arith, p.ends) in
        let fits : length t ≤ length out = omega arith in
        let nought : 0 + length t ≡ length t = omega arith in (
          ap value size ∙ sym (written_value (length out) fits),
          rw unchanged at q.holds (omega arith) ∙ sets-eq t out 0 (omega arith) ∙ ap (λ (n : ℕ). t ++ drop n out) nought
              ∙ sym (value_left out fits),
        )
