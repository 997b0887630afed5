-- What opening a file gives and leaves, by what opening its tables gave.
use Prim.Native.Nat.{ℕ}
use mathlib.Core.Path.{◌≡◌, refl, sym, ◌∙◌, ap}
use mathlib.Core.List.{List}
use lib.ListN.{length}
use Rattle.reads.specs.Outcome.{Outcome, value, absent, refused, and_then}
use Rattle.reads.specs.Answer.{missed, outcome}
use Rattle.reads.specs.Place.{part}
use Rattle.reads.specs.declared.answer.Missing.{Missing}
use Rattle.reads.specs.declared.answer.Missing.TheVariants.{Absent, Refused}
use Rattle.reads.proofs.Outcomes.{missed_then, then_came}
use Rattle.pointers.specs.Index.{indexed}
use Rattle.pointers.specs.Open.{asked_opening, opening, opening_unless, left_by, opened_index}
use Rattle.pointers.specs.declared.imageinfo.ImageInfo.{ImageInfo}
use Rattle.pointers.proofs.Opens.{opened_index_by}
use Rattle.macho.specs.Loader.{ncmds}
use Rattle.macho.specs.Commands.{command_bytes, segments_of}
use Rattle.macho.specs.Segments.{segment_table_of, written}
use Rattle.macho.specs.Sections.{info_section_of, section_table_of}
use Rattle.macho.specs.FileTables.{segment_table, section_table, over_file, file_tables}
use Rattle.macho.specs.OpenFile.{asked_file, opened_file, opening_file, opening_file_unless, segments_left, sections_left, index_left, Buffers}
use Rattle.macho.specs.declared.section.Section.{Section}
use Rattle.std.specs.Prelude.{Result, Ok, Err}
use Rattle.reads.specs.declared.answer.Question.{Question}

left_missing : (A : Type 0) (m : Missing) (new old : List ℕ) → old ≡ left_by (missed {A = A} m) new old
left_missing A (Absent r) new old = refl
left_missing A (Refused k) new old = refl

left_then : {A B : Type 0} (o : Outcome A) (f : A → B) (new old : List ℕ) → left_by (and_then o (λ a. value (f a))) new old ≡ left_by o new old
left_then (value a) f new old = refl
left_then (absent r) f new old = refl
left_then (refused k) f new old = refl

module _ (file segments sections rebases binds index : List ℕ) (asked : asked_file file (length segments) (length sections) ≡ value tt) where
  opening_by : opening_file file segments sections rebases binds index ≡ and_then (opening (file_tables file rebases binds index)) (λ i. value (opened_file file i))
  unfolding opening_file
  opening_by = rw asked

  left_by_lem : (new old : List ℕ) → left_by (opening_file file segments sections rebases binds index) new old ≡ left_by (opening (file_tables file rebases binds index)) new old
  left_by_lem new old = rw opening_by (left_then (opening (file_tables file rebases binds index)) (opened_file file) new old)

  index_left_by : opened_index (file_tables file rebases binds index) ≡ index_left file segments sections rebases binds index
  unfolding index_left file_tables
  index_left_by = opened_index_by (file_tables file rebases binds index) ∙ sym (left_by_lem (indexed rebases binds index) index)

  -- With what a caller asks last.
  module _ (last : Outcome (Unit {0})) where
    unless_by : opening_file_unless last file segments sections rebases binds index
        ≡ and_then (opening_unless last (file_tables file rebases binds index)) (λ i. value (opened_file file i))
    unless_by = rw asked

    -- What the code read of the file, and what opening over that answered.
    module _
        (cmds : List ℕ) (count : ℕ) (s : Section) (body : List ℕ)
        (c : cmds ≡ command_bytes file) (n : count ≡ ncmds file) (f : s ≡ info_section_of cmds count) (b : body ≡ part file s.offset s.size)
        (w : Result ImageInfo Missing) (e : outcome w ≡ opening_unless last (over_file file (segment_table_of cmds count) (section_table_of cmds count) body rebases binds index)) where
      same : over_file file (segment_table_of cmds count) (section_table_of cmds count) body rebases binds index ≡ file_tables file rebases binds index
      unfolding file_tables
      same = rw (b, f, c, n)

      opened_so : outcome w ≡ opening_unless last (file_tables file rebases binds index)
      opened_so = e ∙ ap (opening_unless last) same

      index_left_lem : (l : List ℕ)
          → l ≡ left_by last (opened_index (over_file file (segment_table_of cmds count) (section_table_of cmds count) body rebases binds index)) index
          → l ≡ left_by last (index_left file segments sections rebases binds index) index
      index_left_lem l g = g ∙ ap (λ (x : List ℕ). left_by last x index) (ap opened_index same ∙ index_left_by)

      module _ (i : ImageInfo) (g : w ≡ Ok i) where
        there : opening_unless last (file_tables file rebases binds index) ≡ value i
        there = sym opened_so ∙ ap outcome g

        passed_last : (opening (file_tables file rebases binds index) ≡ value i) × (last ≡ value tt)
        unfolding opening
        passed_last =
            let before_last = then_came (asked_opening (file_tables file rebases binds index)) _ i there in
            let at_last = then_came last _ i before_last.2 in
            (rw before_last.1 at_last.2, at_last.1)

        -- The four promises, with what the code then wrote.
        pub filled : (k : ℕ) (ss cs xs : List ℕ) → k ≡ length (segments_of cmds count) → ss ≡ written (segment_table_of cmds count) segments
            → cs ≡ section_table_of cmds count
            → xs ≡ left_by last (opened_index (over_file file (segment_table_of cmds count) (section_table_of cmds count) body rebases binds index)) index
            → (value (record { segments = k; info = i; info_at = s.offset; info_len = length body }) ≡ opening_file_unless last file segments sections rebases binds index)
            × ((ss ≡ left_by last (segments_left file segments sections rebases binds index) segments)
            × ((cs ≡ left_by last (sections_left file segments sections rebases binds index) sections)
            × (xs ≡ left_by last (index_left file segments sections rebases binds index) index)))
        unfolding segments_left sections_left
        filled k ss cs xs p g h l = (
          rw (unless_by, there, p, b, f, c, n),
          (
            rw passed_last.1 (g ∙ rw (c, n) (sym (left_by_lem (written (segment_table file) segments) segments ∙ rw passed_last.0))),
            (rw passed_last.1 (h ∙ rw (c, n) (sym (left_by_lem (section_table file) sections ∙ rw passed_last.0))), index_left_lem xs l),
          ),
        )

      module _ (m : Missing) (g : w ≡ Err m) where
        gone : opening_unless last (file_tables file rebases binds index) ≡ missed m
        gone = sym opened_so ∙ ap outcome g

        kept : (new old : List ℕ) → old ≡ left_by last (left_by (opening_file file segments sections rebases binds index) new old) old
        unfolding opening
        kept new old = go last gone
          where
            go : (o : Outcome (Unit {0})) → opening_unless o (file_tables file rebases binds index) ≡ missed m
                → old ≡ left_by o (left_by (opening_file file segments sections rebases binds index) new old) old
            go (value u) h = left_missing ImageInfo m new old ∙ sym (left_by_lem new old ∙ rw h)
            go (absent r) h = refl
            go (refused k) h = refl

        pub refusing : (xs : List ℕ)
            → xs ≡ left_by last (opened_index (over_file file (segment_table_of cmds count) (section_table_of cmds count) body rebases binds index)) index
            → (missed m ≡ opening_file_unless last file segments sections rebases binds index)
            × ((segments ≡ left_by last (segments_left file segments sections rebases binds index) segments)
            × ((sections ≡ left_by last (sections_left file segments sections rebases binds index) sections)
            × (xs ≡ left_by last (index_left file segments sections rebases binds index) index)))
        unfolding segments_left sections_left
        refusing xs l = (rw (unless_by, gone) (missed_then m _), (kept _ segments, (kept _ sections, index_left_lem xs l)))

-- The three buffers at once.
pub buffers_by : {a b c d e f : List ℕ} → (a ≡ b) × ((c ≡ d) × (e ≡ f))
    → ◌≡◌ {A = Buffers} (record { segments = a; sections = c; index = e }) (record { segments = b; sections = d; index = f })
buffers_by h = rw (h.0, h.1.0, h.1.1)

-- With a number from what is asked first, nothing is opened.
module _ (last : Outcome (Unit {0})) (file segments sections rebases binds index : List ℕ) (k : Question)
    (e : refused k ≡ asked_file file (length segments) (length sections)) where
  unopened : refused k ≡ opening_file file segments sections rebases binds index
  unfolding opening_file
  unopened = rw (← e)

  untouched : (old : List ℕ) → old ≡ left_by last old old
  untouched old = go last
    where
      go : (o : Outcome (Unit {0})) → old ≡ left_by o old old
      go (value u) = refl
      go (absent r) = refl
      go (refused j) = refl

  pub unasked : (refused k ≡ opening_file_unless last file segments sections rebases binds index)
      × ((segments ≡ left_by last (segments_left file segments sections rebases binds index) segments)
      × ((sections ≡ left_by last (sections_left file segments sections rebases binds index) sections)
      × (index ≡ left_by last (index_left file segments sections rebases binds index) index)))
  unfolding segments_left sections_left index_left
  unasked = (rw (← e), (rw (← unopened) (untouched segments), (rw (← unopened) (untouched sections), rw (← unopened) (untouched index))))
