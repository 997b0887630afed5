-- Opening a bundle: whatever its index held before, opening answers and leaves the same; and the questions that a bundle can meet.
use Rattle.std.specs.Prelude.{Option, Some, None}
use Prim.Native.Nat.{ℕ, ◌*◌, ◌/◌, ◌≤◌}
use mathlib.Core.Path.{◌≡◌, sym, ap, ◌∙◌}
use mathlib.Core.Bool.{Bool, true, false}
use mathlib.Core.List.{List, []}
use native.Mathlib.Omega.{arith}
use lib.ListN.{length, drop, replicate, length-take, length-drop, length-replicate, drop_of_length-le}
use lib.Seq.{drop-nil}
use borrow.Author.Tests.{le-leb}
use Rattle.reads.specs.Outcome.{Outcome, value, refused, and_then, choose}
use Rattle.reads.specs.Files.{longest}
use Rattle.reads.specs.Place.{part}
use Rattle.reads.proofs.Outcomes.{then_came}
use Rattle.reads.proofs.Tests.{by_choose, choose_true}
use Rattle.pointers.specs.ImageInfo.{image_info}
use Rattle.pointers.specs.Index.{indexed, index_length}
use Rattle.pointers.specs.Open.{asked_opening, opening, opened_index}
use Rattle.pointers.specs.Question.{question, image_fits, whole_rows, segment_files, section_table, info_whole, bind_files, names_inside, names_utf8, index_fits, asked_tables, asked_index}
use Rattle.reads.specs.Table.{records}
use Rattle.pointers.specs.Tables.{Tables, with_index}
use Rattle.pointers.specs.declared.imageinfo.ImageInfo.{ImageInfo}
use Rattle.pointers.proofs.IndexWords.{length_indexed}
use Rattle.pointers.proofs.Questions.{question_yes, rows_whole}
use Rattle.frames.specs.Marks.{addresses, frames_of}
use Rattle.frames.specs.declared.frames.Frames.{Frames}
use Rattle.frames.specs.declared.frames.Ranges.{Ranges}
use Rattle.listing.specs.Bundle.{words_from, rebase_table_words, bind_table_words, info_at, rebases_at, binds_at, image0_at, image1_at, image2_at, image3_at, bundled_files, counts_of, ranges_of, bundle_counts, bundled, Accepted}
use Rattle.listing.specs.declared.bundle.Counts.{Counts}
use Rattle.listing.proofs.BundleWords.{length_words}
use Rattle.listing.proofs.Measured.{accepted}
use Rattle.marking.specs.Framed.{with_frames, framed_opening}
use Rattle.marking.specs.declared.framed.Framed.{Framed}
use Rattle.printing.specs.BundleLent.{index_size}
use Rattle.printing.specs.BundleText.{index_words, bundle_tables, bundle_opening, Met, opens, refused_13, refused_2, refused_18, refused_3, refused_7, refused_14, refused_23}
use Rattle.reads.specs.declared.answer.Question.TheVariants.{SegmentTable, SectionTable, NameInside, BundleLength, NameUtf8, FileLent, FileLength, ImageInfoLength, RebaseTable, BindTable, IndexLength}

-- Of the index opening asks the length alone, and it leaves nothing of what an index of just enough words held.
module _ (t : Tables) (i j : List ℕ) (same : length i ≡ length j) where
  asked_same : asked_opening (with_index t i) ≡ asked_opening (with_index t j)
  unfolding asked_opening asked_tables asked_index
  asked_same = rw same

  pub framed_same : (x : Option Ranges) → framed_opening x (with_index t i) ≡ framed_opening x (with_index t j)
  unfolding framed_opening
  framed_same x = ap (λ (o : Outcome (Unit {0})). and_then o (λ u. and_then (frames_of x) (λ w. with_frames w (image_info t.info)))) asked_same

  pub opening_same : opening (with_index t i) ≡ opening (with_index t j)
  unfolding opening
  opening_same = ap (λ (o : Outcome (Unit {0})). and_then o (λ u. image_info t.info)) asked_same

module _ (t : Tables) (i : List ℕ) (long : length i ≡ index_length t.rebases t.binds) (info : ImageInfo)
    (e : opening (with_index t i) ≡ value info) where
  index_left_lem : opened_index (with_index t i) ≡ indexed t.rebases t.binds i
  unfolding opening opened_index
  index_left_lem = rw (then_came (asked_opening (with_index t i)) _ info e).1

  pub index_whole : opened_index (with_index t i) ≡ indexed t.rebases t.binds []
  unfolding indexed
  index_whole =
      let none : drop (index_length t.rebases t.binds) i ≡ [] =
      drop_of_length-le i {i = index_length t.rebases t.binds} (omega arith) in
      index_left_lem ∙ rw (none, drop-nil (index_length t.rebases t.binds))

  pub index_long : length (opened_index (with_index t i)) ≡ length i
  index_long = ap length index_left_lem ∙ length_indexed t.rebases t.binds i (omega arith)

-- The questions 2, 18 of segments, 3, 18 of binds, 7 and 14, and then what comes after them.
met_by : (two segments three binds seven fourteen : Bool) (o : Outcome Framed) → Met o
    → Met (and_then (and_then (and_then (question SegmentTable two) (λ x. and_then (question FileLent segments) (λ y. and_then (question SectionTable three) (λ z. value (tt {0})))))
    (λ x. and_then (question FileLent binds) (λ y. and_then (question NameInside seven) (λ z. and_then (question NameUtf8 fourteen) (λ u. value (tt {0})))))) (λ x. o))
unfolding question choose
met_by false segments three binds seven fourteen o m = refused_2
met_by true false three binds seven fourteen o m = refused_18
met_by true true false binds seven fourteen o m = refused_3
met_by true true true false seven fourteen o m = refused_18
met_by true true true true false fourteen o m = refused_7
met_by true true true true true false o m = refused_14
met_by true true true true true true o m = m

-- The lengths of an accepted bundle's parts.
module _ (bytes : List ℕ) (c : Counts) (a : Accepted bytes c) where
  part_length : (offset k : ℕ) → length (part bytes offset k) ≤ 32768
  part_length offset k = simp (length-take, length-drop) (omega (arith, a.short))

  pub files_length : longest (bundled_files bytes c) ≤ 32768
  unfolding longest
  files_length =
      omega (
        arith,
        part_length (image0_at c) c.image0,
        part_length (image1_at c) c.image1,
        part_length (image2_at c) c.image2,
        part_length (image3_at c) c.image3,
      )

  info_length : length (part bytes info_at 8) ≡ 8
  info_length = simp (length-take, length-drop) (omega (arith, a.exact))

  pub index_most : index_words c ≤ index_size
  index_most = omega (arith, a.short, a.exact)

  pub index_asks : index_length (words_from bytes (rebases_at c) (rebase_table_words c)) (words_from bytes (binds_at c) (bind_table_words c)) ≡ index_words c
  index_asks = rw (length_words bytes (rebases_at c) (rebase_table_words c), length_words bytes (binds_at c) (bind_table_words c)) (omega arith)

  -- Of opening's questions only 2, 18, 3, 7 and 14 can say no.
  module _ (i : List ℕ) (long : length i ≡ index_words c) where
    abbrev t : Tables
    t = bundled bytes c i

    fits_1 : image_fits (longest t.files) ≡ true
    unfolding image_fits
    fits_1 = le-leb (longest t.files) 4294967295 (omega (arith, files_length))

    fits_4 : info_whole (length t.info) ≡ true
    unfolding info_whole
    fits_4 = le-leb 8 (length t.info) (omega (arith, info_length))

    fits_5 : whole_rows 2 16777215 (length t.rebases) ≡ true
    fits_5 =
        rw (length_words bytes (rebases_at c) (rebase_table_words c))
        (sym (rows_whole 2 16777215 (2 * c.rebases) (omega arith)) ∙ le-leb (2 * c.rebases / 2) 16777215 (omega (arith, a.short, a.exact)))

    fits_6 : whole_rows 4 16777215 (length t.binds) ≡ true
    fits_6 =
        rw (length_words bytes (binds_at c) (bind_table_words c))
        (sym (rows_whole 4 16777215 (4 * c.binds) (omega arith)) ∙ le-leb (4 * c.binds / 4) 16777215 (omega (arith, a.short, a.exact)))

    fits_8 : index_fits (records 2 t.rebases) (records 4 t.binds) (length t.index) ≡ true
    unfolding index_fits
    fits_8 = le-leb (index_length t.rebases t.binds) (length i) (omega (arith, index_asks, long))

    info_there : (w : Option Frames) → Met (with_frames w (image_info t.info))
    unfolding image_info
    info_there w = rw (choose_true _ _ (le-leb 8 (length (part bytes info_at 8)) (omega (arith, info_length)))) (opens _)

    -- 23 comes after them.
    ranges_met : (x : Option Ranges) → Met (and_then (frames_of x) (λ w. with_frames w (image_info t.info)))
    unfolding frames_of
    ranges_met None = info_there None
    ranges_met (Some x) =
        by_choose (λ (o : Outcome (Option Frames)). Met (and_then o (λ w. with_frames w (image_info t.info)))) (λ e. info_there (addresses x)) (λ e. refused_23)

    pub opening_met : (x : Option Ranges) → Met (framed_opening x (bundled bytes c i))
    unfolding framed_opening asked_opening asked_tables asked_index
    opening_met x =
        simp (question_yes FileLength _ fits_1, question_yes ImageInfoLength _ fits_4, question_yes RebaseTable _ fits_5, question_yes BindTable _ fits_6, question_yes IndexLength _ fits_8)
        (met_by (whole_rows 5 64 (length t.segments)) (segment_files t.files t.segments) (section_table (longest t.files) t.sections)
        (bind_files t.files t.binds) (names_inside t.files t.binds) (names_utf8 t.files t.binds)
        (and_then (frames_of x) (λ w. with_frames w (image_info t.info))) (ranges_met x))

-- Question 13 gives the bundle's first seven words or 13.
pub counted_by : (bytes : List ℕ) (P : Outcome Counts → Type 0) → (Accepted bytes (counts_of bytes) → P (value (counts_of bytes))) → P (refused BundleLength)
    → P (bundle_counts bytes)
unfolding bundle_counts
counted_by bytes P counts thirteen =
    by_choose P (λ fits. counts (accepted bytes (counts_of bytes) (choose_true _ _ fits))) (λ fits. thirteen)

-- Every bundle is opened, or 13, 2, 18, 3, 7, 14 or 23 refuses it.
pub bundle_met : (bytes : List ℕ) → Met (bundle_opening bytes)
unfolding bundle_opening
bundle_met bytes =
    counted_by bytes (λ (o : Outcome Counts). Met (and_then o (λ c. framed_opening (Some (ranges_of bytes)) (bundle_tables bytes))))
    (λ a. opening_met bytes (counts_of bytes) a (replicate (index_words (counts_of bytes)) 0) (length-replicate (index_words (counts_of bytes)) 0) (Some (ranges_of bytes)))
    refused_13
