-- What is noted of a definition, part by part, as the code notes it.
use Prim.Native.Nat.{ℕ}
use mathlib.Core.Path.{◌≡◌, refl, sym, ap, ◌∙◌}
use mathlib.Core.Bool.{Bool, true, false}
use mathlib.Core.List.{List, [], ◌∷◌}
use Rattle.reads.specs.Answer.{missed}
use Rattle.reads.specs.Outcome.{Outcome, value, absent, refused, and_then, nonzero, choose}
use Rattle.reads.specs.Place.{Image}
use Rattle.reads.specs.Segment.{rows, lookup}
use Rattle.reads.specs.Text.{text_at, text_in, read_at}
use Rattle.reads.specs.declared.text.Reading.{Reading}
use Rattle.reads.proofs.Outcomes.{then_then}
use Rattle.reads.specs.declared.answer.Missing.{Missing}
use Rattle.reads.specs.declared.answer.Missing.TheVariants.{Absent, Refused}
use Rattle.pointers.specs.Tables.{Tables}
use Rattle.records.specs.Asks.{if_value, if_absent}
use Rattle.records.specs.Decode.{Decode, made, asked, after, either, either_first, chosen, trial, run, or0, rebase}
use Rattle.records.specs.Class.{decode_data}
use Rattle.ranges.specs.Range.{Range, range}
use Rattle.ranges.specs.Sheet.{noted, noted_all}
use Rattle.ranges.proofs.SheetLaws.{noted_append}
use Rattle.used.specs.Used.{uses, used, uses_text, place_range}
use Rattle.usage.specs.Noting.{noting}
use Rattle.usage.specs.declared.noting.Noting.{Noting}
use Rattle.used.proofs.UsedParts.{used_done, used_asked, used_then, used_else, used_else_first, used_when, used_tried}

-- What is noted after an answer, and what where it is absent.
abbrev pub on_value : {A : Type 0} → Outcome A → (A → List ℕ → List ℕ) → List ℕ → List ℕ
on_value (value a) f m = f a m
on_value (absent r) f m = m
on_value (refused k) f m = m

abbrev pub on_absent : {A : Type 0} → Outcome A → List ℕ → List ℕ → List ℕ
on_absent (value a) n m = m
on_absent (absent r) n m = n
on_absent (refused k) n m = m

-- A sheet with the bytes noted that a definition uses, one part after another; this computes, as `run` does.
abbrev pub noted_by : {A : Type 0} → Tables → Decode A → List ℕ → List ℕ
noted_by t (made a) m = m
noted_by t (asked q) m = noted_all (uses t q) m
noted_by t (after d f) m = on_value (run t d) (λ a. noted_by t (f a)) (noted_by t d m)
noted_by t (either d e) m = on_absent (run t d) (noted_by t e (noted_by t d m)) (noted_by t d m)
noted_by t (either_first d e) m = on_absent (run t d) (noted_by t e (noted_by t d m)) (noted_by t d m)
noted_by t (chosen b d e) m = choose b (noted_by t d m) (noted_by t e m)
noted_by t (trial d) m = noted_by t d m

pub in_value : {A : Type 0} (o : Outcome A) (f : A → List Range) (m : List ℕ) → noted_all (if_value o f) m ≡ on_value o (λ a. noted_all (f a)) m
unfolding noted_all
in_value (value a) f m = refl
in_value (absent r) f m = refl
in_value (refused k) f m = refl

value_same : {A : Type 0} (o : Outcome A) (f g : A → List ℕ → List ℕ) (m : List ℕ) → ((a : A) → f a m ≡ g a m) → on_value o f m ≡ on_value o g m
value_same (value a) f g m h = h a
value_same (absent r) f g m h = refl
value_same (refused k) f g m h = refl

pub in_absent : {A : Type 0} (o : Outcome A) (rs : List Range) (m : List ℕ) → noted_all (if_absent o rs) m ≡ on_absent o (noted_all rs m) m
unfolding noted_all
in_absent (value a) f m = refl
in_absent (absent r) f m = refl
in_absent (refused k) f m = refl

in_choice : (b : Bool) (rs ss : List Range) (m : List ℕ) → noted_all (choose b rs ss) m ≡ choose b (noted_all rs m) (noted_all ss m)
unfolding choose
in_choice true rs ss m = refl
in_choice false rs ss m = refl

pub used_noted : {A : Type 0} (t : Tables) (d : Decode A) (m : List ℕ) → noted_all (used t d) m ≡ noted_by t d m
used_noted t (made a) m = ap (λ l. noted_all l m) (used_done t a) ∙ unfold noted_all in refl
used_noted t (asked q) m = ap (λ l. noted_all l m) (used_asked t q)
used_noted t (after d f) m =
    ap (λ l. noted_all l m) (used_then t d f) ∙ noted_append (used t d) _ m ∙ ap (noted_all (if_value (run t d) (λ a. used t (f a)))) (used_noted t d m)
    ∙ in_value (run t d) (λ a. used t (f a)) (noted_by t d m) ∙ value_same (run t d) _ (λ a. noted_by t (f a)) (noted_by t d m) (λ a. used_noted t (f a) (noted_by t d m))
used_noted t (either d e) m =
    ap (λ l. noted_all l m) (used_else t d e) ∙ noted_append (used t d) _ m ∙ ap (noted_all (if_absent (run t d) (used t e))) (used_noted t d m)
    ∙ in_absent (run t d) (used t e) (noted_by t d m) ∙ ap (λ x. on_absent (run t d) x (noted_by t d m)) (used_noted t e (noted_by t d m))
used_noted t (either_first d e) m =
    ap (λ l. noted_all l m) (used_else_first t d e) ∙ noted_append (used t d) _ m ∙ ap (noted_all (if_absent (run t d) (used t e))) (used_noted t d m)
    ∙ in_absent (run t d) (used t e) (noted_by t d m) ∙ ap (λ x. on_absent (run t d) x (noted_by t d m)) (used_noted t e (noted_by t d m))
used_noted t (chosen b d e) m =
    ap (λ l. noted_all l m) (used_when t b d e) ∙ in_choice b (used t d) (used t e) m
    ∙ ap (λ x. choose b x (noted_all (used t e) m)) (used_noted t d m) ∙ ap (λ x. choose b (noted_by t d m) x) (used_noted t e m)
used_noted t (trial d) m = ap (λ l. noted_all l m) (used_tried t d) ∙ used_noted t d m

-- A text, by its place.
if_then : {A B C : Type 0} (o : Outcome A) (f : A → Outcome B) (us : B → List C) → if_value (and_then o f) us ≡ if_value o (λ a. if_value (f a) us)
if_then (value a) f us = refl
if_then (absent r) f us = refl
if_then (refused k) f us = refl

pub at_text : (m : Image) (va : ℕ) (s : List ℕ)
    → noted_all (uses_text m va) s ≡ on_value (and_then (nonzero va) (λ a. lookup (rows m.words) a)) (λ p. noted (range p.file p.offset (read_at m.files p))) s
unfolding uses_text
at_text m va s =
    ap (λ l. noted_all l s) (sym (if_then (nonzero va) (λ a. lookup (rows m.words) a) (λ p. place_range p (read_at m.files p) ∷ [])))
    ∙ in_value (and_then (nonzero va) (λ a. lookup (rows m.words) a)) (λ p. place_range p (read_at m.files p) ∷ []) s
    ∙ unfold noted_all in refl

pub text_by : (r : Reading) (m : Image) (va : ℕ) → text_in r m va ≡ and_then (and_then (nonzero va) (λ a. lookup (rows m.words) a)) (text_at r m.files)
unfolding text_in
text_by r m va = sym (then_then (nonzero va) (λ a. lookup (rows m.words) a) (text_at r m.files))

-- The whole of `noting`, by parts.
pub noting_is : {A : Type 0} (d : Decode A) (n : Noting) → noting d n ≡ record n { sheet = record (n.sheet) { now = noted_by n.tables.now d n.sheet.now } }
unfolding noting
noting_is d n = rw (used_noted n.tables.now d n.sheet.now)

pub none_noted : (m : List ℕ) → noted_all [] m ≡ m
unfolding noted_all
none_noted m = refl

pub one_noted : (r : Range) (m : List ℕ) → noted_all (r ∷ []) m ≡ noted r m
unfolding noted_all
one_noted r m = refl

-- What is missing ends it; a question that is the last, or that counts as something where it is absent, notes its own bytes alone.
pub missed_ends : {A : Type 0} (k : Missing) (f : A → List ℕ → List ℕ) (m : List ℕ) → on_value (missed {A = A} k) f m ≡ m
missed_ends (Absent r) f m = refl
missed_ends (Refused q) f m = refl

pub missed_then : {A B : Type 0} (k : Missing) (f : A → Outcome B) → and_then (missed k) f ≡ missed k
missed_then (Absent r) f = refl
missed_then (Refused q) f = refl

pub or_same : {A : Type 0} (o : Outcome A) (m : List ℕ) → on_absent o m m ≡ m
or_same (value a) m = refl
or_same (absent r) m = refl
or_same (refused k) m = refl

pub same_choice : (b : Bool) (m : List ℕ) → choose b m m ≡ m
unfolding choose
same_choice true m = refl
same_choice false m = refl

pub last_same : {A : Type 0} (o : Outcome A) (m : List ℕ) → on_value o (λ a n. n) m ≡ m
last_same (value a) m = refl
last_same (absent r) m = refl
last_same (refused k) m = refl

-- Nor do the tests at the end of a list's header note anything.
pub size_last : {A B : Type 0} (o : Outcome A) (p : Outcome B) (m : List ℕ) → on_value o (λ x n. on_value p (λ y k. k) (noted_all [] n)) m ≡ m
unfolding noted_all
size_last (value x) p m = last_same p m
size_last (absent r) p m = refl
size_last (refused k) p m = refl

-- The data address of a class is made of a word that was read before.
data_none : (t : Tables) (b raw : ℕ) (m : List ℕ) → noted_by t (decode_data b raw) m ≡ m
unfolding decode_data noted_all
data_none t b raw m = or_same (run t (rebase b)) m

pub data_last : (t : Tables) (b : ℕ) (o : Outcome ℕ) (m : List ℕ)
    → on_value o (λ raw n. on_value (run t (or0 (decode_data b raw))) (λ x k. k) (noted_by t (or0 (decode_data b raw)) n)) m ≡ m
data_last t b (value raw) m = rw (last_same (run t (or0 (decode_data b raw))) (noted_by t (or0 (decode_data b raw)) m), or_same (run t (decode_data b raw)) (noted_by t (decode_data b raw) m)) (data_none t b raw m)
data_last t b (absent r) m = refl
data_last t b (refused k) m = refl

pub ruleset notes = (noting_is, none_noted, one_noted, in_value, in_absent, at_text, text_by, missed_ends, missed_then, or_same, same_choice, last_same, size_last)
