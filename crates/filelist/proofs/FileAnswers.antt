-- What the calls over a file lend and read, by the tests that the code makes.
use Prim.Native.Nat.{ℕ, ◌-◌, ◌*◌, min}
use mathlib.Core.Path.{◌≡◌, refl, sym, ap, ◌∙◌}
use mathlib.Core.Bool.{Bool, true, false}
use mathlib.Core.List.{List, [], ◌++◌}
use native.Mathlib.Nat.{le_of_lt}
use native.Mathlib.Omega.{arith}
use lib.Dec.{leb}
use lib.ListN.{length, take, drop, drop_of_length-le}
use lib.Seq.{drop-length}
use borrow.Author.Tests.{leb-true, leb-false}
use Rattle.reads.specs.Answer.{missed, outcome}
use Rattle.reads.specs.Outcome.{Outcome, value, absent, refused, and_then}
use Rattle.reads.specs.Place.{part}
use Rattle.reads.proofs.Tests.{by_choose}
use Rattle.reads.specs.Segment.{segment_words}
use Rattle.reads.specs.declared.answer.Missing.{Missing}
use Rattle.reads.specs.declared.answer.Missing.TheVariants.{Absent, Refused}
use Rattle.pointers.specs.Index.{index_length}
use Rattle.pointers.specs.declared.imageinfo.ImageInfo.{ImageInfo}
use Rattle.pointers.specs.ImageInfo.{image_info}
use Rattle.pointers.specs.Open.{asked_opening, opening, opening_unless, left_by}
use Rattle.macho.specs.FileTables.{over_file, file_tables}
use Rattle.macho.specs.OpenFile.{asked_file, opened_file, opening_file, opening_file_unless, segments_left, sections_left, index_left, Buffers}
use Rattle.macho.specs.declared.open.OpenedFile.{OpenedFile}
use Rattle.frames.specs.Marks.{frames_of}
use Rattle.frames.specs.declared.frames.Frames.{Frames}
use Rattle.frames.specs.declared.frames.Ranges.{Ranges}
use Rattle.marking.specs.Framed.{with_frames, framed_opening}
use Rattle.marking.proofs.Framing.{unless_accepted, framed_refused}
use Rattle.printing.specs.Pieces.{listable}
use Rattle.printing.proofs.BundleAnswers.{first_bytes}
use Rattle.filelist.specs.FileText.{info_in, framed_file, opened_by}
use Rattle.filelist.specs.FileLent.{index_used, segments_after, sections_after, index_after, tables_by}
use Rattle.std.specs.Prelude.{Result, Ok, Err, Option, None}
use Rattle.reads.specs.declared.answer.Question.{Question}

-- What is left of the index past the words that are used.
rest_words : (index : List ℕ) (k n : ℕ) → n ≡ min k (length index) → drop n index ≡ drop k index
rest_words index k n e = go (leb k (length index)) refl
  where
    go : (t : Bool) → leb k (length index) ≡ t → drop n index ≡ drop k index
    go true g = let h : n ≡ k = omega (arith, leb-true k (length index) g) in rw h
    go false g =
        let less = leb-false k (length index) g in
        let h : n ≡ length index = omega arith in
        rw (h, drop-length index) (sym (drop_of_length-le index {i = k} (le_of_lt less)))

-- What opening the file gives, with the frames, by what opening its tables gives.
module _ (x : Option Ranges) (w : Option Frames) (last : Outcome (Unit {0})) (file segments sections rebases binds index : List ℕ)
    (e : with_frames w (opening_unless last (file_tables file rebases binds index)) ≡ framed_opening x (file_tables file rebases binds index)) where
  taken_by : opening_file_unless last file segments sections rebases binds index ≡ opened_by file (framed_file x file segments sections rebases binds index)
  unfolding framed_file
  taken_by = rw (← e) (go (asked_file file (length segments) (length sections)) (opening_unless last (file_tables file rebases binds index)))
    where
      go : (a : Outcome (Unit {0})) (o : Outcome ImageInfo)
          → and_then a (λ _. and_then o (λ info. value (opened_file file info))) ≡ opened_by file (and_then a (λ _. with_frames w o))
      go (value u) (value i) = refl
      go (value u) (absent r) = refl
      go (value u) (refused k) = refl
      go (absent r) o = refl
      go (refused k) o = refl

  begun_by : with_frames w (info_in (opening_file_unless last file segments sections rebases binds index)) ≡ framed_file x file segments sections rebases binds index
  unfolding framed_file
  begun_by = rw (← e) (go (asked_file file (length segments) (length sections)) (opening_unless last (file_tables file rebases binds index)))
    where
      go : (a : Outcome (Unit {0})) (o : Outcome ImageInfo)
          → with_frames w (info_in (and_then a (λ _. and_then o (λ info. value (opened_file file info))))) ≡ and_then a (λ _. with_frames w o)
      go (value u) (value i) = refl
      go (value u) (absent r) = refl
      go (value u) (refused k) = refl
      go (absent r) o = refl
      go (refused k) o = refl

-- Ranges that 23 takes: what opening the file gives.
pub frames_taken : (x : Option Ranges) (w : Option Frames) → frames_of x ≡ value w → (file segments sections rebases binds index : List ℕ)
    → opening_file file segments sections rebases binds index ≡ opened_by file (framed_file x file segments sections rebases binds index)
unfolding opening_file opening
frames_taken x w e file segments sections rebases binds index =
    taken_by x w (value tt) file segments sections rebases binds index (unless_accepted x (file_tables file rebases binds index) w e)

-- A number of opening the file goes before 23.
info_unrefused : (body : List ℕ) (f : ImageInfo → OpenedFile) (k : Question) → and_then (image_info body) (λ i. value (f i)) ≡ refused k → ⊥
unfolding image_info
info_unrefused body f k =
    by_choose (λ (o : Outcome ImageInfo). and_then o (λ i. value (f i)) ≡ refused k → ⊥)
    (λ t e. let z : ◌≡◌ {A = ℕ} 0 1 = cc in omega arith)
    (λ t e. let z : ◌≡◌ {A = ℕ} 0 1 = cc in omega arith)

first_number : (x : Option Ranges) (file body : List ℕ) (k : Question) (a o : Outcome (Unit {0}))
    → and_then a (λ _. and_then (and_then o (λ _. image_info body)) (λ i. value (opened_file file i))) ≡ refused k
    → and_then a (λ _. and_then o (λ _. and_then (frames_of x) (λ w. with_frames w (image_info body)))) ≡ refused k
first_number x file body k (value u) (value v) e = absurd (info_unrefused body (opened_file file) k e)
first_number x file body k (value u) (absent r) e = let z : ◌≡◌ {A = ℕ} 0 1 = cc in absurd (omega arith)
first_number x file body k (value u) (refused n) e = let same : n ≡ k = cc in rw same
first_number x file body k (absent r) o e = let z : ◌≡◌ {A = ℕ} 0 1 = cc in absurd (omega arith)
first_number x file body k (refused n) o e = let same : n ≡ k = cc in rw same

pub number_first : (x : Option Ranges) (file segments sections rebases binds index : List ℕ) (k : Question) → opening_file file segments sections rebases binds index ≡ refused k
    → framed_file x file segments sections rebases binds index ≡ refused k
unfolding opening_file framed_file opening framed_opening
number_first x file segments sections rebases binds index k e =
    first_number x file (file_tables file rebases binds index).info k (asked_file file (length segments) (length sections))
    (asked_opening (file_tables file rebases binds index)) e

-- Opening for ranges over the first words of the index.
module _ (x : Option Ranges) (file segments sections rebases binds index : List ℕ) (n : ℕ) (e : n ≡ min (index_length rebases binds) (length index)) where
  abbrev used : List ℕ
  used = index_used rebases binds index

  used_part : take n index ≡ used
  used_part = let h : n - 0 ≡ n = omega arith in rw h at (first_bytes index (index_length rebases binds) n e)

  rest_part : drop n index ≡ drop (index_length rebases binds) index
  rest_part = rest_words index (index_length rebases binds) n e

  abbrev After : Buffers
  After =
      record {
        segments = segments_after x file segments sections rebases binds index;
        sections = sections_after x file segments sections rebases binds index;
        index = index_after x file segments sections rebases binds index;
      }

  -- The listing that is begun, and what is left of what is lent.
  pub record Begins (w : Option Frames) (last : Outcome (Unit {0})) (o : Outcome OpenedFile) : Type 0 where
    pub answer : o ≡ opened_by file (framed_file x file segments sections rebases binds used)
    pub framed : with_frames w (info_in o) ≡ framed_file x file segments sections rebases binds used
    pub left : ◌≡◌ {A = Buffers}
        (record {
          segments = left_by last (segments_left file segments sections rebases binds (take n index)) segments;
          sections = left_by last (sections_left file segments sections rebases binds (take n index)) sections;
          index = left_by last (index_left file segments sections rebases binds (take n index)) (take n index) ++ drop n index;
        })
        After

  -- With what 23 says of the ranges asked last, and the frames that it gives.
  module _ (w : Option Frames) (last : Outcome (Unit {0}))
      (opens : with_frames w (opening_unless last (file_tables file rebases binds used)) ≡ framed_opening x (file_tables file rebases binds used))
      (leaves : (new old : List ℕ) → left_by last new old ≡ left_by (frames_of x) new old) where
    first_framed : (o : Outcome OpenedFile) → o ≡ opening_file_unless last file segments sections rebases binds (take n index)
        → (o ≡ opened_by file (framed_file x file segments sections rebases binds used))
        × (with_frames w (info_in o) ≡ framed_file x file segments sections rebases binds used)
    first_framed o h =
        let all = h ∙ ap (opening_file_unless last file segments sections rebases binds) used_part in (
          all ∙ taken_by x w last file segments sections rebases binds used opens,
          ap (λ (a : Outcome OpenedFile). with_frames w (info_in a)) all ∙ begun_by x w last file segments sections rebases binds used opens,
        )

    left_framed : ◌≡◌ {A = Buffers}
        (record {
          segments = left_by last (segments_left file segments sections rebases binds (take n index)) segments;
          sections = left_by last (sections_left file segments sections rebases binds (take n index)) sections;
          index = left_by last (index_left file segments sections rebases binds (take n index)) (take n index) ++ drop n index;
        })
        After
    left_framed =
        rw (used_part, rest_part)
        (rw (
          leaves (segments_left file segments sections rebases binds used) segments,
          leaves (sections_left file segments sections rebases binds used) sections,
          leaves (index_left file segments sections rebases binds used) used,
        ))

    begins : (o : Outcome OpenedFile) → o ≡ opening_file_unless last file segments sections rebases binds (take n index) → Begins w last o
    begins o h = let first = first_framed o h in record { answer = first.0; framed = first.1; left = left_framed }

  pub begins_framed : (w : Option Frames) → frames_of x ≡ value w
      → (o : Outcome OpenedFile) → o ≡ opening_file_unless (value tt) file segments sections rebases binds (take n index) → Begins w (value tt) o
  begins_framed w g = begins w (value tt) (unless_accepted x (file_tables file rebases binds used) w g) (λ new old. rw g)

  pub begins_refused : (k : Question) → frames_of x ≡ refused k
      → (o : Outcome OpenedFile) → o ≡ opening_file_unless (refused k) file segments sections rebases binds (take n index) → Begins None (refused k) o
  begins_refused k g = begins None (refused k) (framed_refused x (file_tables file rebases binds used) k g) (λ new old. rw g)

-- The tables over the first words of the segments and of the index.
pub parts_same : (file segments sections info rebases binds index : List ℕ) (count w n : ℕ)
    → w ≡ min (segment_words * count) (length segments) → n ≡ min (index_length rebases binds) (length index)
    → listable (over_file file (take (w - 0) (drop 0 segments)) sections info rebases binds (take (n - 0) (drop 0 index)))
    ≡ listable (over_file file (take (segment_words * count) segments) sections info rebases binds (index_used rebases binds index))
parts_same file segments sections info rebases binds index count w n e g =
    ap (λ (ws : List ℕ). listable (over_file file ws sections info rebases binds (take (n - 0) (drop 0 index))))
    (first_bytes segments (segment_words * count) w e)
    ∙ ap (λ (i : List ℕ). listable (over_file file (take (segment_words * count) segments) sections info rebases binds i))
    (first_bytes index (index_length rebases binds) n g)

-- What an opened file is read from, and one that is not opened.
module _ (a : Result OpenedFile Missing) where
  pub opened_parts : (o : OpenedFile) → a ≡ Ok o → (file segments sections rebases binds index info : List ℕ)
      → info ≡ part file o.info_at o.info_len
      → over_file file (take (segment_words * o.segments) segments) sections info rebases binds (index_used rebases binds index)
      ≡ tables_by (outcome a) file segments sections rebases binds (index_used rebases binds index)
  opened_parts o e file segments sections rebases binds index info g = rw (e, g)

  pub no_parts : (m : Missing) → a ≡ Err m → (file segments sections rebases binds index : List ℕ)
      → over_file file [] sections [] rebases binds (index_used rebases binds index)
      ≡ tables_by (outcome a) file segments sections rebases binds (index_used rebases binds index)
  no_parts m e file segments sections rebases binds index = rw e (go m)
    where
      go : (m : Missing) → over_file file [] sections [] rebases binds (index_used rebases binds index)
          ≡ tables_by (missed m) file segments sections rebases binds (index_used rebases binds index)
      go (Absent r) = refl
      go (Refused k) = refl
