-- The reading that a word says.
use Prim.Native.Nat.{ℕ}
use mathlib.Core.Path.{◌≡◌}
use borrow.Author.Tests.{eq-eqb, ne_eqb}
use Rattle.reads.specs.declared.text.Reading.TheVariants.{Old}
use Rattle.reads.proofs.Tests.{choose_true, choose_false}
use Rattle.pointers.specs.Tables.{reading_under, reading_new}
use Rattle.face.specs.Words.{setting_in}

pub new_reading : {n : ℕ} → n ≡ 0 → reading_new ≡ setting_in n
unfolding setting_in
new_reading h = rw (choose_true _ _ (eq-eqb _ _ h))

pub old_reading : {n : ℕ} → (n ≡ 0 → ⊥) → reading_under Old ≡ setting_in n
unfolding setting_in
old_reading h = rw (choose_false _ _ (ne_eqb _ _ h))
