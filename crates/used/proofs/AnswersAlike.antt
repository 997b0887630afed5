-- A question has the same answer, and uses the same bytes, over tables that differ in files of equal lengths and in the index alone, if these
-- have the bytes that it uses in common and lookups find the same.
use Prim.Native.Nat.{ℕ, ◌+◌, ◌-◌}
use mathlib.Core.Path.{◌≡◌, refl, sym, ap, ◌∙◌}
use mathlib.Core.Bool.{Bool, true, false}
use mathlib.Core.List.{List, [], ◌∷◌, flat_map}
use lib.Dec.{leb}
use lib.ListN.{length, drop, length-drop}
use Rattle.reads.specs.Outcome as outcomes
use Rattle.reads.specs.Outcome.{Outcome, value, absent, refused, and_then, because, or_else, or_zero, choose}
use Rattle.reads.specs.Address as addresses
use Rattle.reads.specs.Address.{stripped}
use Rattle.reads.specs.Files.{file_of}
use Rattle.reads.specs.Place as places
use Rattle.reads.specs.Place.{le, part, readable_at, le_in, word_in}
use Rattle.reads.specs.Relative.{signed32, signed_in}
use Rattle.reads.specs.Segment.{rows, lookup}
use Rattle.reads.specs.Text.{scan_of, text_of_scan, text_from, text_at, text_in, read_from, read_at}
use Rattle.reads.specs.declared.answer.Reason.TheVariants.{Unreadable, Unresolved, PastEnd}
use Rattle.reads.specs.declared.place.Place.{Place}
use Rattle.reads.specs.declared.text.Scan.{Scan}
use Rattle.reads.specs.declared.text.Text.{Text}
use Rattle.pointers.specs.Slot as slots
use Rattle.pointers.specs.Slot.{bind_at, symbol_of, stored, resolve, pointer_at, pointer_or0_at}
use Rattle.pointers.specs.Symbol.{stripped_in, stripped_name}
use Rattle.pointers.specs.Tables.{Tables, image_in}
use Rattle.records.specs.Ask.{Ask, sum64, nonzero, even, at_least, readable, u32_in, u64_in, i32_in, u64_at, picked, picked_at, slot, rebase, pointer, pointer_or0, string, symbol, info, answer}
use Rattle.records.specs.Asks.{if_value, if_absent, Each, asks}
use Rattle.records.specs.Decode.{Decode, run}
use Rattle.records.proofs.Asks.{each_left, each_right, asks_decide}
use Rattle.ranges.specs.Range.{Range, range}
use Rattle.used.specs.Used.{place_range, uses_field, uses_word, uses_slot_in, uses_slot, uses_pointer_in, uses_pointer, uses_text, name_range, uses_symbol_in, uses_symbol, uses, used}
use Rattle.used.proofs.SameScans.{scan_same}

-- The same tables with other files and another index.
abbrev pub over : Tables → List (List ℕ) → List ℕ → Tables
over t files index =
    record {
      files = files;
      segments = t.segments;
      sections = t.sections;
      info = t.info;
      rebases = t.rebases;
      binds = t.binds;
      index = index;
      setting = t.setting;
    }

-- Two lists of files have the same bytes in a range.
abbrev pub SamePart : List (List ℕ) → List (List ℕ) → Range → Type 0
SamePart files others r = part (file_of files r.file) r.offset r.len ≡ part (file_of others r.file) r.offset r.len

-- The same outcome, and the same ranges.
pub record Alike {A : Type 0} (o p : Outcome A) (rs ss : List Range) : Type 0 where
  pub outcome : o ≡ p
  pub ranges : rs ≡ ss

module _ (P : Range → Type 0) where
  then_alike : {A B : Type 0} (o : Outcome A) (f g : A → Outcome B) (us vs : A → List Range) → Each P (if_value o us)
      → ((a : A) → Each P (us a) → Alike (f a) (g a) (us a) (vs a)) → Alike (and_then o f) (and_then o g) (if_value o us) (if_value o vs)
  then_alike (value a) f g us vs e h = h a e
  then_alike (absent r) f g us vs e h = record { outcome = refl; ranges = refl }
  then_alike (refused k) f g us vs e h = record { outcome = refl; ranges = refl }

  else_alike : {A : Type 0} (o d e : Outcome A) (us vs : List Range) → Each P (if_absent o us)
      → (Each P us → Alike d e us vs) → Alike (or_else o d) (or_else o e) (if_absent o us) (if_absent o vs)
  else_alike (value a) d e us vs h k = record { outcome = refl; ranges = refl }
  else_alike (absent r) d e us vs h k = k h
  else_alike (refused n) d e us vs h k = record { outcome = refl; ranges = refl }

-- What is made of alike outcomes is alike.
made_alike : {A B : Type 0} {o p : Outcome A} {rs ss : List Range} (f : Outcome A → Outcome B) → Alike o p rs ss → Alike (f o) (f p) rs ss
made_alike f h = record { outcome = ap f h.outcome; ranges = h.ranges }

module _ (t : Tables) (files : List (List ℕ)) (index : List ℕ)
    (lengths : (f : ℕ) → length (file_of t.files f) ≡ length (file_of files f))
    (rebased : (a : ℕ) → slots.rebase t a ≡ slots.rebase (over t files index) a)
    (bound : (a : ℕ) → bind_at t.files t.rebases t.binds t.index a ≡ bind_at files t.rebases t.binds index a) where
  abbrev u : Tables
  u = over t files index

  abbrev Common : Range → Type 0
  Common r = SamePart t.files files r

  abbrev AlikeOver : Ask → Type 0
  AlikeOver q = Alike (answer t q) (answer u q) (uses t q) (uses u q)

  -- A test that bytes can be read asks for their file's length alone.
  readable_alike : (va k : ℕ) → places.readable (image_in t) va k ≡ places.readable (image_in u) va k
  unfolding places.readable
  readable_alike va k = go (lookup (rows t.segments) va)
    where
      go : (o : Outcome Place) → and_then (because Unreadable o) (λ p. readable_at (length (file_of t.files p.file)) p k)
          ≡ and_then (because Unreadable o) (λ p. readable_at (length (file_of files p.file)) p k)
      go (value p) = rw (lengths p.file)
      go (absent r) = refl
      go (refused n) = refl

  word_alike : (va : ℕ) → Each Common (uses_word (image_in t) va)
      → Alike (places.word (image_in t) 8 va) (places.word (image_in u) 8 va) (uses_word (image_in t) va) (uses_word (image_in u) va)
  unfolding places.word uses_word
  word_alike va h =
      rw (← readable_alike va 8)
      (then_alike Common (places.readable (image_in t) va 8)
      (λ p. value (le (part (file_of t.files p.file) p.offset 8))) (λ p. value (le (part (file_of files p.file) p.offset 8)))
      (λ p. place_range p 8 ∷ []) (λ p. place_range p 8 ∷ []) h
      (λ p g. record { outcome = ap (λ (s : List ℕ). value (le s)) g.0; ranges = refl }))

  field_alike : (k : ℕ) (p : Place) (i : ℕ) → Each Common (uses_field t.files k p i)
      → Alike (value (word_in t.files k p i)) (value (word_in files k p i)) (uses_field t.files k p i) (uses_field files k p i)
  unfolding word_in le_in uses_field
  field_alike k p i h =
      rw (← lengths p.file)
      record { outcome = go (leb (p.offset + i + k) (length (file_of t.files p.file))) h; ranges = refl }
    where
      go : (inside : Bool) → Each Common (choose inside (range p.file (p.offset + i) k ∷ []) [])
          → value (choose inside (le (part (file_of t.files p.file) (p.offset + i) k)) 0) ≡ value (choose inside (le (part (file_of files p.file) (p.offset + i) k)) 0)
      go true h = unfold choose in ap (λ (s : List ℕ). value (le s)) h.0
      go false h = unfold choose in refl

  slot_alike : (a : ℕ) → Each Common (uses_slot t a) → Alike (slots.slot t a) (slots.slot u a) (uses_slot t a) (uses_slot u a)
  unfolding uses_slot_in resolve stored
  slot_alike a h =
      rw (← rebased a)
      (made_alike (because Unresolved)
      (else_alike Common (slots.rebase t a) (stored (image_in t) a) (stored (image_in u) a) (uses_word (image_in t) a) (uses_word (image_in u) a) h
      (λ g. made_alike (λ (o : Outcome ℕ). and_then o (λ w. value (stripped w))) (word_alike a g))))

  pointer_alike : (va k : ℕ) → Each Common (uses_pointer t va k) → AlikeOver (pointer va k)
  unfolding uses_pointer_in pointer_at
  pointer_alike va k h =
      then_alike Common (outcomes.sum64 va k) (slots.slot t) (slots.slot u) (uses_slot t) (uses_slot u) h slot_alike

  pointer_or_0_alike : (va k : ℕ) → Each Common (uses_pointer t va k) → AlikeOver (pointer_or0 va k)
  unfolding uses_pointer_in pointer_or0_at
  pointer_or_0_alike va k h =
      then_alike Common (outcomes.sum64 va k) (λ a. or_zero (slots.slot t a)) (λ a. or_zero (slots.slot u a)) (uses_slot t) (uses_slot u) h
      (λ a g. made_alike or_zero (slot_alike a g))

  text_at_alike : (p : Place) → Common (place_range p (read_at t.files p))
      → Alike (text_at t.setting.reading t.files p) (text_at t.setting.reading files p)
      (place_range p (read_at t.files p) ∷ []) (place_range p (read_at files p) ∷ [])
  unfolding text_from read_from
  text_at_alike p h =
      let bytes = file_of t.files p.file in
      let others = file_of files p.file in
      let left : length (drop p.offset bytes) ≡ length (drop p.offset others) =
      length-drop p.offset bytes ∙ ap (λ (n : ℕ). n - p.offset) (lengths p.file) ∙ sym (length-drop p.offset others) in
      let same = scan_same (drop p.offset bytes) (drop p.offset others) left h in
      record {
        outcome = ap (λ (n : ℕ). found n (scan_of (drop p.offset bytes))) (lengths p.file) ∙ ap (λ (c : Scan). found (length others) c) same;
        ranges = ap (λ (c : Scan). place_range p c.read ∷ []) same;
      }
    where
      found : ℕ → Scan → Outcome Text
      found n c = choose (leb p.offset n) (text_of_scan t.setting.reading p c) (absent PastEnd)

  text_alike : (va : ℕ) → Each Common (uses_text (image_in t) va) → AlikeOver (string va)
  unfolding uses_text text_in
  text_alike va h =
      then_alike Common (outcomes.nonzero va) _ _ _ _ h
      (λ a g. then_alike Common (lookup (rows t.segments) a) (λ p. text_at t.setting.reading t.files p) (λ p. text_at t.setting.reading files p) _ _ g
      (λ p f. text_at_alike p f.0))

  symbol_alike : (a : ℕ) → Each Common (uses_symbol t a) → AlikeOver (symbol a)
  unfolding uses_symbol_in symbol_of stripped_in
  symbol_alike a h =
      rw (← bound a)
      (then_alike Common (bind_at t.files t.rebases t.binds t.index a) (λ name. value (stripped_name t.files name)) (λ name. value (stripped_name files name))
      (λ name. name_range name ∷ []) (λ name. name_range name ∷ []) h
      (λ name g. record { outcome = rw g.0 refl; ranges = refl }))

  answer_alike : (q : Ask) → Each Common (uses t q) → AlikeOver q
  unfolding signed_in
  answer_alike (sum64 va k) h = record { outcome = refl; ranges = refl }
  answer_alike (nonzero x) h = record { outcome = refl; ranges = refl }
  answer_alike (even va) h = record { outcome = refl; ranges = refl }
  answer_alike (at_least least size) h = record { outcome = refl; ranges = refl }
  answer_alike (readable va k) h = record { outcome = readable_alike va k; ranges = refl }
  answer_alike (u32_in p i) h = field_alike 4 p i h
  answer_alike (u64_in p i) h = field_alike 8 p i h
  answer_alike (i32_in p i) h = made_alike (λ (o : Outcome ℕ). and_then o (λ n. value (signed32 n))) (field_alike 4 p i h)
  answer_alike (u64_at va) h = word_alike va h
  answer_alike (picked w) h = record { outcome = refl; ranges = refl }
  answer_alike (picked_at a) h = made_alike (λ (o : Outcome ℕ). and_then o (addresses.picked t.segments)) (word_alike a h)
  answer_alike (slot a) h = slot_alike a h
  answer_alike (rebase a) h = record { outcome = rebased a; ranges = refl }
  answer_alike (pointer va k) h = pointer_alike va k h
  answer_alike (pointer_or0 va k) h = pointer_or_0_alike va k h
  answer_alike (string va) h = text_alike va h
  answer_alike (symbol a) h = symbol_alike a h
  answer_alike info h = record { outcome = refl; ranges = refl }

  -- Of all that a definition asks.
  answers_alike : (qs : List Ask) → Each Common (flat_map (uses t) qs)
      → Each (λ q. answer t q ≡ answer u q) qs × (flat_map (uses t) qs ≡ flat_map (uses u) qs)
  unfolding flat_map
  answers_alike [] h = (tt, refl)
  answers_alike (q ∷ qs) h =
      let one = answer_alike q (each_left Common (uses t q) (flat_map (uses t) qs) h) in
      let rest = answers_alike qs (each_right Common (uses t q) (flat_map (uses t) qs) h) in
      ((one.outcome, rest.0), rw (one.ranges, rest.1) refl)

  -- So its outcome and the bytes that it uses are the same.
  pub run_alike : {A : Type 0} (d : Decode A) → Each Common (used t d) → Alike (run t d) (run u d) (used t d) (used u d)
  run_alike d h =
      let answered = answers_alike (asks t d) h in
      let same = asks_decide t u d answered.0 in
      record { outcome = same.outcome; ranges = answered.1 ∙ ap (flat_map (uses u)) same.questions }
