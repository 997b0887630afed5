-- can_read, by what readable gives: a value or absent, never a number.
use Rattle.std.proofs.Common.{◌≡◌, ℕ, true, false, List, length, refl, true≢false}
use Rattle.reads.specs.Outcome.{Outcome, value, absent, Unrefused, a_value, an_absence, and_then, because}
use Rattle.reads.specs.Files.{file_of}
use Rattle.reads.specs.Segment.{rows, lookup}
use Rattle.reads.specs.Place.{Image, readable_at, readable}
use Rattle.reads.specs.Answer.{missed}
use Rattle.reads.specs.Breaks.{is_value, can_read}
use Rattle.reads.specs.declared.answer.Reason.TheVariants.{Unreadable}
use Rattle.reads.specs.declared.answer.Missing.{Missing}
use Rattle.reads.specs.declared.answer.Missing.TheVariants.{Absent, Refused}
use Rattle.reads.specs.declared.place.Place.{Place}
use Rattle.reads.proofs.Tests.{by_choose}
use Rattle.reads.proofs.Unrefused.{lookup_unrefused}

-- Bytes that cannot be read are Unreadable, for whatever cause.
unreadable_at : (n : ℕ) (p : Place) (k : ℕ) → is_value (readable_at n p k) ≡ false → readable_at n p k ≡ absent Unreadable
unfolding readable_at
unreadable_at n p k =
    by_choose (λ (o : Outcome Place). is_value o ≡ false → o ≡ absent Unreadable) (λ e z. absurd (true≢false z)) (λ e z. refl)

unreadable : (fs : List (List ℕ)) (k : ℕ) (o : Outcome Place) → Unrefused o
    → is_value (and_then (because Unreadable o) (λ p. readable_at (length (file_of fs p.file)) p k)) ≡ false
    → and_then (because Unreadable o) (λ p. readable_at (length (file_of fs p.file)) p k) ≡ absent Unreadable
unreadable fs k o (a_value p) e = unreadable_at (length (file_of fs p.file)) p k e
unreadable fs k o (an_absence r) e = refl

module _ (m : Image) (k va : ℕ) where
  pub can_read_value : (p : Place) → readable m va k ≡ value p → can_read m k va ≡ true
  unfolding can_read
  can_read_value p e = simp e

  pub can_read_absent : readable m va k ≡ absent Unreadable → can_read m k va ≡ false
  unfolding can_read
  can_read_absent e = simp e

  pub readable_absent : can_read m k va ≡ false → readable m va k ≡ absent Unreadable
  unfolding can_read readable
  readable_absent e = unreadable m.files k (lookup (rows m.words) va) (lookup_unrefused (rows m.words) va) e

-- What cannot be looked up cannot be read, whatever stands in its place.
missed_no_value : (x : Missing) → is_value (missed {A = Place} x) ≡ false
missed_no_value (Absent r) = refl
missed_no_value (Refused n) = refl

pub can_read_missing : (m : Image) (k va : ℕ) (x : Missing) → missed x ≡ readable m va k → can_read m k va ≡ false
unfolding can_read
can_read_missing m k va x e = rw (← e) (missed_no_value x)
