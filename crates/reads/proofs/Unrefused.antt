-- The reads ask no question: none of them gives a number. What is made of unrefused outcomes is unrefused.
use Rattle.std.specs.Prelude.{Ok, Err}
use Rattle.std.proofs.Common.{◌≡◌, ℕ, ◌+◌, ◌-◌, Bool, true, false, List, [], ◌∷◌, length, drop, refl}
use Rattle.reads.specs.Utf8.{Verdict}
use Rattle.reads.specs.Outcome.{Outcome, value, Unrefused, a_value, an_absence, and_then, because, or_else, or_first, or_zero, or_empty, choose, sum64, nonzero, text_of}
use Rattle.reads.specs.Files.{file_of}
use Rattle.reads.specs.Segment.{rows, place_at, placed, lookup}
use Rattle.reads.specs.Place.{Image, le, part, readable_at, readable, word}
use Rattle.reads.specs.Text.{scan_of, if_good, good_text, ended, if_ended, text_from, text_at, text_in}
use Rattle.reads.specs.Address.{data_arm64e, data64, mapped, picked_wide, picked}
use Rattle.reads.specs.declared.answer.Reason.{Reason}
use Rattle.reads.specs.declared.answer.Reason.TheVariants.{NullAddress, Unmapped, PastEnd, Unterminated, NotUtf8, NoData, Unreadable, FieldOverflow}
use Rattle.reads.specs.declared.place.Place.{Place}
use Rattle.reads.specs.declared.text.Reading.{Reading}
use Rattle.reads.specs.declared.text.Reading.TheVariants.{Old, New}
use Rattle.reads.specs.declared.text.Scan.{Scan}
use Rattle.reads.specs.declared.text.Text.{Text}
use Rattle.reads.specs.declared.segment.Segment.{Segment}
use Rattle.reads.proofs.Tests.{by_choose}

pub unrefused_then : {A B : Type 0} {o : Outcome A} (f : A → Outcome B) → Unrefused o → ((a : A) → Unrefused (f a)) → Unrefused (and_then o f)
unrefused_then f (a_value a) v = v a
unrefused_then f (an_absence r) v = an_absence r

-- The same where what follows is known of the value that came.
pub unrefused_came : {A B : Type 0} {o : Outcome A} (f : A → Outcome B) → Unrefused o → ((a : A) → o ≡ value a → Unrefused (f a)) → Unrefused (and_then o f)
unrefused_came f (a_value a) v = v a refl
unrefused_came f (an_absence r) v = an_absence r

pub unrefused_else : {A : Type 0} {o p : Outcome A} → Unrefused o → Unrefused p → Unrefused (or_else o p)
unrefused_else (a_value a) v = a_value a
unrefused_else (an_absence r) v = v

pub unrefused_because : {A : Type 0} {o : Outcome A} (why : Reason) → Unrefused o → Unrefused (because why o)
unrefused_because why (a_value a) = a_value a
unrefused_because why (an_absence r) = an_absence why

pub unrefused_first : {A : Type 0} {o p : Outcome A} → Unrefused o → Unrefused p → Unrefused (or_first o p)
unrefused_first (a_value a) v = a_value a
unrefused_first (an_absence r) v = unrefused_because r v

pub unrefused_zero : {o : Outcome ℕ} → Unrefused o → Unrefused (or_zero o)
unrefused_zero u = unrefused_else u (a_value 0)

pub unrefused_empty : {o : Outcome Text} → Unrefused o → Unrefused (or_empty o)
unrefused_empty u = unrefused_else u (a_value (text_of 0 0 0))

pub unrefused_choose : {A : Type 0} (b : Bool) {o p : Outcome A} → Unrefused o → Unrefused p → Unrefused (choose b o p)
unrefused_choose b u v = by_choose Unrefused (λ e. u) (λ e. v)

pub sum_unrefused : (a b : ℕ) → Unrefused (sum64 a b)
unfolding sum64
sum_unrefused a b = by_choose Unrefused (λ e. a_value (a + b)) (λ e. an_absence FieldOverflow)

pub nonzero_unrefused : (x : ℕ) → Unrefused (nonzero x)
unfolding nonzero
nonzero_unrefused x = by_choose Unrefused (λ e. an_absence NullAddress) (λ e. a_value x)

placed_unrefused : (s : Segment) (va : ℕ) → Unrefused (placed s va)
unfolding placed
placed_unrefused s va =
    by_choose Unrefused (λ e. an_absence Unmapped)
    (λ e. unrefused_then (λ offset. value (place_at s.file offset)) (unrefused_because Unmapped (sum_unrefused s.fileoff (va - s.vmaddr))) (λ offset. a_value (place_at s.file offset)))

pub lookup_unrefused : (ss : List Segment) (va : ℕ) → Unrefused (lookup ss va)
unfolding lookup
lookup_unrefused [] va = an_absence Unmapped
lookup_unrefused (s ∷ ss) va =
    by_choose Unrefused (λ e. an_absence Unmapped) (λ e. by_choose Unrefused (λ h. placed_unrefused s va) (λ h. lookup_unrefused ss va))

pub readable_at_unrefused : (n : ℕ) (p : Place) (k : ℕ) → Unrefused (readable_at n p k)
unfolding readable_at
readable_at_unrefused n p k = by_choose Unrefused (λ e. a_value p) (λ e. an_absence Unreadable)

module _ (m : Image) where
  pub readable_unrefused : (va k : ℕ) → Unrefused (readable m va k)
  unfolding readable
  readable_unrefused va k =
      unrefused_then (λ p. readable_at (length (file_of m.files p.file)) p k) (unrefused_because Unreadable (lookup_unrefused (rows m.words) va))
      (λ p. readable_at_unrefused (length (file_of m.files p.file)) p k)

  pub word_unrefused : (k va : ℕ) → Unrefused (word m k va)
  unfolding word
  word_unrefused k va =
      unrefused_then (λ p. value (le (part (file_of m.files p.file) p.offset k))) (readable_unrefused va k)
      (λ p. a_value (le (part (file_of m.files p.file) p.offset k)))

if_good_unrefused : (v : Verdict) (n : ℕ) → Unrefused (if_good v n)
if_good_unrefused (Ok u) n = a_value n
if_good_unrefused (Err k) n = an_absence (NotUtf8 k)

good_text_unrefused : (p : Place) (c : Scan) → Unrefused (good_text p c)
good_text_unrefused p c =
    unrefused_then (λ n. value (text_of p.file p.offset n)) (if_good_unrefused c.verdict c.len)
    (λ n. a_value (text_of p.file p.offset n))

if_ended_unrefused : {A : Type 0} {o : Outcome A} (r : Reading) (e : Bool) → Unrefused o → Unrefused (if_ended r e o)
if_ended_unrefused Old e u = u
if_ended_unrefused New true u = u
if_ended_unrefused New false u = an_absence Unterminated

pub text_from_unrefused : (r : Reading) (bytes : List ℕ) (p : Place) → Unrefused (text_from r bytes p)
unfolding text_from
text_from_unrefused r bytes p =
    let c = scan_of (drop p.offset bytes) in
    by_choose Unrefused
    (λ e. if_ended_unrefused r (ended c) (good_text_unrefused p c))
    (λ e. an_absence PastEnd)

pub text_in_unrefused : (r : Reading) (m : Image) (va : ℕ) → Unrefused (text_in r m va)
unfolding text_in
text_in_unrefused r m va =
    unrefused_then (λ a. and_then (lookup (rows m.words) a) (λ p. text_at r m.files p)) (nonzero_unrefused va)
    (λ a. unrefused_then (λ p. text_at r m.files p) (lookup_unrefused (rows m.words) a)
    (λ p. text_from_unrefused r (file_of m.files p.file) p))

pub mapped_unrefused : (words : List ℕ) (va : ℕ) → Unrefused (mapped words va)
unfolding mapped
mapped_unrefused words va = unrefused_then (λ p. value va) (lookup_unrefused (rows words) va) (λ p. a_value va)

pub picked_unrefused : (words : List ℕ) (w : ℕ) → Unrefused (picked words w)
unfolding picked picked_wide
picked_unrefused words w =
    unrefused_because NoData
    (unrefused_else (unrefused_then (mapped words) (nonzero_unrefused (data_arm64e w)) (mapped_unrefused words)) (nonzero_unrefused (data64 w)))
