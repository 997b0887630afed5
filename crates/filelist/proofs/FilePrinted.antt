-- The text that comes of a file after it was opened is the file's text, marks included, under either reading, whatever the buffers held; with a
-- number nothing lent is written.
use Rattle.std.specs.Prelude.{Option}
use Prim.Native.Nat.{ℕ, ◌*◌, ◌≤◌}
use mathlib.Core.Path.{◌≡◌, refl, sym, ap, ◌∙◌}
use mathlib.Core.Bool.{Bool, true, false}
use mathlib.Core.List.{List, [], ◌∷◌, ◌++◌}
use lib.ListN.{length, take, drop, length-replicate, replicate, take-append-drop}
use lib.Seq.{length-take-le, take_at}
use Rattle.reads.specs.Outcome.{Outcome, value, absent, refused, and_then}
use Rattle.reads.specs.declared.text.Reading.{Reading}
use Rattle.reads.proofs.Outcomes.{then_came}
use Rattle.pointers.specs.Index.{index_length}
use Rattle.pointers.specs.Open.{Opened, opening, left_by, opened_index}
use Rattle.pointers.specs.Sorted.{ascending}
use Rattle.pointers.specs.Tables.{Tables, under, reading_under, with_index, section_table_words}
use Rattle.pointers.specs.declared.setting.Lookup.TheVariants.{Sorted}
use Rattle.pointers.specs.declared.imageinfo.ImageInfo.{ImageInfo}
use Rattle.pointers.specs.declared.setting.Setting.{Setting}
use Rattle.pointers.proofs.OpenedTables.{opened_room, opened_under}
use Rattle.walks.specs.Slots.{slot_count}
use Rattle.macho.specs.FileTables.{section_table, file_tables}
use Rattle.macho.specs.OpenFile.{segment_table_words, asked_file, opened_file, opening_file, segments_left, sections_left, index_left}
use Rattle.frames.specs.Marks.{frames_of}
use Rattle.frames.specs.declared.frames.Frames.{Frames}
use Rattle.frames.specs.declared.frames.Ranges.{Ranges}
use Rattle.marking.specs.declared.framed.Framed.{Framed}
use Rattle.marking.proofs.Framing.{framed_given}
use Rattle.macho.specs.declared.open.OpenedFile.{OpenedFile}
use Rattle.macho.proofs.FileOpened.{index_written, left_are_tables, opening_gives, number_keeps}
use Rattle.listing.specs.PlainListing.{plain_listing}
use Rattle.listing.specs.declared.line.Line.{Line}
use Rattle.listing.proofs.ListedAlike.{listed_alike}
use Rattle.marking.specs.Marked.{marked_lines}
use Rattle.printing.specs.BundleText.{listing_text, opened_text}
use Rattle.printing.specs.LineText.{refused_text}
use Rattle.printing.specs.Pieces.{to_come, begun, pieces, listable}
use Rattle.printing.proofs.BundleOpens.{framed_same, opening_same, index_whole, index_long}
use Rattle.printing.proofs.Comes.{come_under, pieces_text}
use Rattle.printing.proofs.PieceAnswers.{listable_short}
use Rattle.printing.proofs.Printed.{begun_sound, listing_comes, over_comes}
use Rattle.filelist.specs.FileText.{lookup_by, file_setting, zero_index, tables_for, framed_file, opened_by, file_opening, file_text}
use Rattle.filelist.specs.FileLent.{index_used, segments_after, sections_after, index_after, tables_by, tables_lent}
use Rattle.filelist.proofs.FileAnswers.{frames_taken}
use Rattle.reads.specs.declared.answer.Question.{Question}

-- Of what it fills and of the index opening asks the length alone.
opens_same : (x : Option Ranges) (file rebases binds s t c d i j : List ℕ) → length s ≡ length t → length c ≡ length d → length i ≡ length j
    → framed_file x file s c rebases binds i ≡ framed_file x file t d rebases binds j
unfolding framed_file file_tables
opens_same x file rebases binds s t c d i j a b e =
    rw (a, b)
    (ap (λ (o : Outcome Framed). and_then (asked_file file (length t) (length d)) (λ _. o)) (framed_same (file_tables file rebases binds j) i j e x))

module _ (file rebases binds : List ℕ) where
  -- The tables for the file, opened: whatever the index held.
  abbrev tables_said : Tables
  tables_said = with_index (tables_for file rebases binds) (opened_index (tables_for file rebases binds))

  module _ (i : List ℕ) (long : length i ≡ index_length rebases binds) (info : ImageInfo) (e : opening (file_tables file rebases binds i) ≡ value info) where
    zeros_open : opening (tables_for file rebases binds) ≡ value info
    unfolding file_tables
    zeros_open =
        opening_same (file_tables file rebases binds i) (zero_index rebases binds) i (length-replicate (index_length rebases binds) 0 ∙ sym long) ∙ e

    same_index : opened_index (file_tables file rebases binds i) ≡ opened_index (tables_for file rebases binds)
    unfolding file_tables
    same_index =
        index_whole (file_tables file rebases binds i) i long info e
        ∙ sym (index_whole (tables_for file rebases binds) (zero_index rebases binds) (length-replicate (index_length rebases binds) 0) info zeros_open)

    said_same : with_index (file_tables file rebases binds i) (opened_index (file_tables file rebases binds i)) ≡ tables_said
    unfolding file_tables
    said_same = ap (with_index (file_tables file rebases binds i)) same_index

    said_opened : Opened tables_said
    unfolding file_tables
    said_opened = record { index_before = zero_index rebases binds; gave = info; accepted = zeros_open; left = refl }

    index_kept_long : length (opened_index (file_tables file rebases binds i)) ≡ index_length rebases binds
    unfolding file_tables
    index_kept_long = index_long (file_tables file rebases binds i) i long info e ∙ long

-- What a file that opening takes is read from, whatever the buffers held.
module _ (file segments sections rebases binds index : List ℕ) (long : index_length rebases binds ≤ length index) where
  abbrev used : List ℕ
  used = index_used rebases binds index

  used_long : length used ≡ index_length rebases binds
  used_long = length-take-le (index_length rebases binds) index long

  module _ (o : OpenedFile) (e : opening_file file segments sections rebases binds used ≡ value o) where
    opens : opening (file_tables file rebases binds used) ≡ value o.info
    opens = opening_gives file segments sections rebases binds used o e

    left_index : index_left file segments sections rebases binds used ≡ opened_index (file_tables file rebases binds used)
    left_index = index_written file segments sections rebases binds used o e

    index_back : index_used rebases binds (index_left file segments sections rebases binds used ++ drop (index_length rebases binds) index)
        ≡ index_left file segments sections rebases binds used
    index_back =
        take_at (index_left file segments sections rebases binds used) (drop (index_length rebases binds) index) (index_length rebases binds)
        (ap length left_index ∙ index_kept_long file rebases binds used used_long o.info opens)

    read_said : tables_by (value o) file (segments_left file segments sections rebases binds used) (sections_left file segments sections rebases binds used)
        rebases binds (index_used rebases binds (index_left file segments sections rebases binds used ++ drop (index_length rebases binds) index))
        ≡ tables_said file rebases binds
    read_said =
        rw index_back
        (left_are_tables file segments sections rebases binds used o e ∙ said_same file rebases binds used used_long o.info opens)

    pub opened : Opened (tables_said file rebases binds)
    opened = said_opened file rebases binds used used_long o.info opens

    pub lent_said : tables_lent (value o) file (segments_left file segments sections rebases binds used) (sections_left file segments sections rebases binds used)
        rebases binds (index_left file segments sections rebases binds used ++ drop (index_length rebases binds) index)
        ≡ tables_said file rebases binds
    lent_said = ap listable read_said ∙ listable_short (tables_said file rebases binds) (opened_room (tables_said file rebases binds) opened).image_length

module _ (u : Setting) (x : Option Ranges) (file segments sections rebases binds index l : List ℕ) where
  abbrev gave : Outcome Framed
  gave = framed_file x file segments sections rebases binds (index_used rebases binds index)

  -- What pieces are read from after the file was opened.
  abbrev pub tables_after : Tables
  tables_after =
      tables_lent (opened_by file gave) file
      (segments_after x file segments sections rebases binds index)
      (sections_after x file segments sections rebases binds index)
      rebases binds
      (index_after x file segments sections rebases binds index)

  -- A number comes as its text, and nothing lent is written with it.
  module _ (k : Question) (e : gave ≡ refused k) where
    pub refused_comes : to_come tables_after (begun u gave l) ≡ refused_text k
    refused_comes = rw e (over_comes u _ tables_after (refused k) l refl)

    pub file_unwritten : (segments_after x file segments sections rebases binds index ≡ segments)
        × (sections_after x file segments sections rebases binds index ≡ sections)
        × (index_after x file segments sections rebases binds index ≡ index)
    file_unwritten = go (frames_of x) refl
      where
        whole : index_used rebases binds index ++ drop (index_length rebases binds) index ≡ index
        whole = take-append-drop (index_length rebases binds) index

        go : (f : Outcome (Option Frames)) → frames_of x ≡ f
            → (left_by f (segments_left file segments sections rebases binds (index_used rebases binds index)) segments ≡ segments)
            × (left_by f (sections_left file segments sections rebases binds (index_used rebases binds index)) sections ≡ sections)
            × (left_by f (index_left file segments sections rebases binds (index_used rebases binds index)) (index_used rebases binds index)
            ++ drop (index_length rebases binds) index ≡ index)
        go (value w) g =
            let refuses = frames_taken x w g file segments sections rebases binds (index_used rebases binds index) ∙ ap (opened_by file) e in
            let kept = number_keeps file segments sections rebases binds (index_used rebases binds index) k refuses in
            (kept.0, kept.1, rw kept.2 whole)
        go (absent r) g = (refl, refl, whole)
        go (refused j) g = (refl, refl, whole)

  module _ (long : index_length rebases binds ≤ length index) where
    -- The ledger has a word for each slot of the two class sections, and of the two category sections.
    module _ (classes : slot_count (section_table file) 0 1 ≤ length l) (categories : slot_count (section_table file) 2 3 ≤ length l) where
      module _ (f : Framed) (e : gave ≡ value f) where
        given : frames_of x ≡ value f.frames
        unfolding framed_file
        given = (framed_given x _ f (then_came (asked_file file (length segments) (length sections)) _ f e).2).frames

        opens_file : opening_file file segments sections rebases binds (index_used rebases binds index) ≡ value (opened_file file f.info)
        opens_file = frames_taken x f.frames given file segments sections rebases binds (index_used rebases binds index) ∙ ap (opened_by file) e

        after_said : tables_after ≡ tables_said file rebases binds
        after_said = rw (e, given) (lent_said file segments sections rebases binds index long (opened_file file f.info) opens_file)

        opened_comes : to_come tables_after (begun u (value f) l) ≡ opened_text (under u (tables_said file rebases binds)) (value f)
        unfolding file_tables
        opened_comes =
            ap (λ (t : Tables). to_come t (begun u (value f) l)) after_said
            ∙ sym (come_under u (tables_said file rebases binds) (begun u (value f) l))
            ∙ listing_comes (under u (tables_said file rebases binds))
            (opened_under u (opened file segments sections rebases binds index long (opened_file file f.info) opens_file)) f l classes categories

      comes : to_come tables_after (begun u gave l) ≡ opened_text (under u (tables_said file rebases binds)) gave
      comes = go gave refl
        where
          go : (o : Outcome Framed) → gave ≡ o → to_come tables_after (begun u o l) ≡ opened_text (under u (tables_said file rebases binds)) o
          go (value f) e = opened_comes f e
          go (absent r) e = over_comes u tables_after (under u (tables_said file rebases binds)) (absent r) l refl
          go (refused k) e = over_comes u tables_after (under u (tables_said file rebases binds)) (refused k) l refl

      module _ (rows : length segments ≡ segment_table_words) (words : length sections ≡ section_table_words) where
        asked_same : gave ≡ framed_file x file (replicate segment_table_words 0) (replicate section_table_words 0) rebases binds (zero_index rebases binds)
        asked_same =
            opens_same x file rebases binds segments (replicate segment_table_words 0) sections (replicate section_table_words 0) (index_used rebases binds index)
            (zero_index rebases binds)
            (rows ∙ sym (length-replicate {A = ℕ} segment_table_words 0))
            (words ∙ sym (length-replicate {A = ℕ} section_table_words 0))
            (used_long file segments sections rebases binds index long ∙ sym (length-replicate {A = ℕ} (index_length rebases binds) 0))

-- However rebases are found, the text is the same.
by_either : (r : Reading) (t : Tables) → Opened t → plain_listing (under (file_setting r t.rebases) t) ≡ plain_listing (under (reading_under r) t)
by_either r t o = go (ascending t.rebases) refl
  where
    go : (b : Bool) → ascending t.rebases ≡ b
        → plain_listing (under (record { reading = r; lookup = lookup_by b }) t) ≡ plain_listing (under (reading_under r) t)
    go true e = listed_alike t o e (record { reading = r; lookup = Sorted }) (reading_under r) refl
    go false e = refl

module _ (r : Reading) (x : Option Ranges) (file segments sections rebases binds index l : List ℕ) (long : index_length rebases binds ≤ length index)
    (classes : slot_count (section_table file) 0 1 ≤ length l) (categories : slot_count (section_table file) 2 3 ≤ length l)
    (rows : length segments ≡ segment_table_words) (words : length sections ≡ section_table_words) where
  abbrev u : Setting
  u = file_setting r rebases

  abbrev answered : Outcome Framed
  answered = gave u x file segments sections rebases binds index l

  abbrev read : Tables
  read = tables_after u x file segments sections rebases binds index l

  text_alike : (o : Outcome Framed) → answered ≡ o
      → opened_text (under u (tables_said file rebases binds)) o ≡ opened_text (under (reading_under r) (tables_said file rebases binds)) o
  unfolding file_tables
  text_alike (value f) e =
      let said = opened file segments sections rebases binds index long (opened_file file f.info) (opens_file u x file segments sections rebases binds index l long classes categories f e) in
      ap (λ (p : Outcome (List Line)). listing_text (file ∷ []) (and_then p (λ lines. value (marked_lines f.frames lines)))) (by_either r (tables_said file rebases binds) said)
  text_alike (absent why) e = refl
  text_alike (refused k) e = refl

  pub file_printed : to_come read (begun u answered l) ≡ file_text (reading_under r) x file rebases binds
  unfolding file_text file_opening
  file_printed =
      comes u x file segments sections rebases binds index l long classes categories
      ∙ text_alike answered refl
      ∙ ap (opened_text (under (reading_under r) (tables_said file rebases binds)))
      (asked_same u x file segments sections rebases binds index l long classes categories rows words)

  -- The pieces that are handed out, of n bytes each, one after the other, are the file's text.
  pub file_printed_pieces : (n k : ℕ) → pieces read n k (begun u answered l) ≡ take (k * n) (file_text (reading_under r) x file rebases binds)
  file_printed_pieces n k = pieces_text read n k (begun u answered l) (begun_sound u answered l) ∙ ap (take (k * n)) file_printed
