-- Under either reading the text that is to come after a bundle was decoded and opened is the bundle's text, marks included, whatever the words, the index and the ledger held.
use Rattle.std.specs.Prelude.{Option, Some}
use Prim.Native.Nat.{ℕ, ◌*◌, ◌≤◌, ◌<◌}
use mathlib.Core.Path.{◌≡◌, refl, sym, ap, ◌∙◌, subst}
use mathlib.Core.Bool.{true, false}
use mathlib.Core.List.{List, ◌++◌, flat_map, append-nil}
use native.Mathlib.Omega.{arith}
use lib.ListN.{length, take, drop, replicate, length-replicate}
use lib.Seq.{length-take-le, take_at}
use Rattle.reads.specs.Files.{longest}
use Rattle.reads.specs.Outcome.{Outcome, value, absent, refused, and_then}
use Rattle.pointers.specs.Open.{Opened, opening, opened_index}
use Rattle.pointers.specs.Tables.{Tables, under, with_index}
use Rattle.pointers.specs.declared.setting.Setting.{Setting}
use Rattle.pointers.proofs.OpenedTables.{opened_under}
use Rattle.pointers.specs.declared.imageinfo.ImageInfo.{ImageInfo}
use Rattle.walks.specs.Slots.{slot_count}
use Rattle.walks.proofs.Gathers.{there_known}
use Rattle.frames.specs.declared.frames.Ranges.{Ranges}
use Rattle.listing.specs.Bundle.{words_from, ranges_of, segments_at, counts_of, bundled, Accepted}
use Rattle.listing.specs.Listing.{says, lacks, nothing, ended}
use Rattle.listing.specs.declared.bundle.Counts.{Counts}
use Rattle.listing.specs.declared.line.Line.{Line}
use Rattle.listing.proofs.Bounds.{pair_slots}
use Rattle.listing.proofs.Remaining.{goes_on, InWords}
use Rattle.listing.proofs.PlainThere.{listing_there}
use Rattle.marking.specs.Framed.{framed_opening, framed_index}
use Rattle.marking.specs.Marked.{marked_lines, marked_listing}
use Rattle.marking.specs.MarkedListing.{Marking, MarkedLeft, marked_leaves, marked_step}
use Rattle.marking.specs.MarkedRun.{Tells, over, silent, lacking, saying}
use Rattle.marking.specs.declared.framed.Framed.{Framed}
use Rattle.marking.proofs.Framing.{framed_given, index_accepted}
use Rattle.marking.proofs.StepsLeft.{start_words, marked_words_kept}
use Rattle.marking.proofs.WholeMarked.{whole_marked}
use Rattle.pointers.specs.Index.{index_length}
use Rattle.printing.specs.BundleLent.{index_size, ledger_size, piece_size, table_words, words_by, words_after, tables_in, opening_by, opening_in, index_by, index_after, tables_by, tables_lent}
use Rattle.printing.specs.BundleText.{index_words, bundle_tables, bundle_opening, listing_text, opened_text, bundle_text}
use Rattle.printing.specs.LineText.{line_text, refused_text}
use Rattle.printing.specs.Pieces.{Standing, standing, to_come, begun, pieces}
use Rattle.printing.proofs.BundleOpens.{opening_same, framed_same, index_whole, index_long, files_length, index_most, index_asks, counted_by}
use Rattle.printing.proofs.BundleParts.{decoded_bundled}
use Rattle.printing.proofs.Comes.{Sound, come_under, come_step, pieces_text}
use Rattle.reads.specs.declared.answer.Question.TheVariants.{BundleLength}

-- What is left of a listing comes as the text of its lines.
abbrev made : MarkedLeft → Standing
made x = standing x.answer 0 x.state x.ledger

module _ (t : Tables) where
  words_after_lem : (m : Marking) (l : List ℕ) (x : MarkedLeft) → InWords m.state → marked_step t m l ≡ x → goes_on x.answer ≡ true → InWords x.state.state
  words_after_lem m l x h e = subst (λ (y : MarkedLeft). goes_on y.answer ≡ true → InWords y.state.state) e (marked_words_kept t m l h)

  tells_comes : {m : Marking} {l : List ℕ} {xs : List Line} → Tells t m l xs → InWords m.state
      → to_come t (made (marked_step t m l)) ≡ flat_map (line_text t.files) xs
  unfolding flat_map
  tells_comes (over {m = m} {l = l} e) h =
      ap (λ (x : MarkedLeft). to_come t (made x)) e ∙ come_step t (made (marked_leaves (value ended) m l)) (record { words = words_after_lem m l _ h e })
  tells_comes (silent {m = m} {n = n} {l = l} {k = k} e r) h =
      let w = words_after_lem m l _ h e in
      ap (λ (x : MarkedLeft). to_come t (made x)) e ∙ come_step t (made (marked_leaves (value nothing) n k)) (record { words = w }) ∙ tells_comes r (w refl)
  tells_comes (lacking {m = m} {n = n} {l = l} {k = k} {x = x} e r) h =
      let w = words_after_lem m l _ h e in
      ap (λ (y : MarkedLeft). to_come t (made y)) e ∙ come_step t (made (marked_leaves (value (lacks x)) n k)) (record { words = w }) ∙ tells_comes r (w refl)
  tells_comes (saying {m = m} {n = n} {l = l} {k = k} {x = x} e r) h =
      let w = words_after_lem m l _ h e in
      ap (λ (y : MarkedLeft). to_come t (made y)) e
      ∙ come_step t (made (marked_leaves (value (says x)) n k)) (record { words = w })
      ∙ ap (λ (text : List ℕ). line_text t.files x ++ text) (tells_comes r (w refl))

pub begun_sound : (u : Setting) (o : Outcome Framed) (l : List ℕ) → Sound (begun u o l)
begun_sound u o l = record { words = λ e. start_words u }

-- With a ledger for the slots of each pair of sections the text of the plain listing with its marks comes.
pub listing_comes : (t : Tables) → Opened t → (f : Framed) (l : List ℕ) → slot_count t.sections 0 1 ≤ length l → slot_count t.sections 2 3 ≤ length l
    → to_come t (begun t.setting (value f) l) ≡ listing_text t.files (marked_listing f.frames t)
listing_comes t o f l classes categories =
    let lines = there_known (listing_there t o) in
    come_step t (begun t.setting (value f) l) (begun_sound t.setting (value f) l)
    ∙ tells_comes t (whole_marked t o f.frames lines.known lines.is l classes categories) (start_words t.setting)
    ∙ ap (λ (x : Outcome (List Line)). listing_text t.files (and_then x (λ ls. value (marked_lines f.frames ls)))) (sym lines.is)

-- A ledger of 8,192 words is always enough for files of at most 32,768 bytes.
ledger_room : (t : Tables) → Opened t → longest t.files ≤ 32768 → (l : List ℕ) → length l ≡ ledger_size
    → (first second : ℕ) → first < 5 → second < 5 → slot_count t.sections first second ≤ length l
ledger_room t o short l long first second a b = omega (arith, pair_slots t o first second a b)

-- A number that refuses comes as its text, and nothing comes where nothing was said.
pub over_comes : (u : Setting) (t v : Tables) (o : Outcome Framed) (l : List ℕ) → goes_on (begun u o l).said ≡ false → to_come t (begun u o l) ≡ opened_text v o
over_comes u t v (value f) l e = let z : ◌≡◌ {A = ℕ} 0 1 = cc in absurd (omega arith)
over_comes u t v (absent r) l e = come_step t (begun u (absent r) l) (begun_sound u (absent r) l)
over_comes u t v (refused k) l e = come_step t (begun u (refused k) l) (begun_sound u (refused k) l) ∙ append-nil (refused_text k)

module _ (u : Setting) (bytes : List ℕ) (c : Counts) (a : Accepted bytes c) (more index l : List ℕ) (room : index_size ≤ length index) (long : length l ≡ ledger_size) where
  abbrev words_read : List ℕ
  words_read = words_from bytes segments_at (table_words c) ++ more

  abbrev old : List ℕ
  old = take (index_words c) index

  abbrev zeros : List ℕ
  zeros = replicate (index_words c) 0

  old_long : length old ≡ index_words c
  old_long = length-take-le (index_words c) index (omega (arith, index_most bytes c a))

  zeros_long : length zeros ≡ index_words c
  zeros_long = length-replicate (index_words c) 0

  abbrev given : Option Ranges
  given = Some (ranges_of bytes)

  opens_same : framed_opening given (tables_in bytes c words_read index) ≡ framed_opening given (bundled bytes c zeros)
  opens_same =
      ap (framed_opening given) (decoded_bundled bytes more index c) ∙ framed_same (bundled bytes c zeros) old zeros (old_long ∙ sym zeros_long) given

  abbrev read : Tables
  read = tables_in bytes c words_read (framed_index given (tables_in bytes c words_read index) ++ drop (index_words c) index)

  abbrev tables_said : Tables
  tables_said = with_index (bundled bytes c zeros) (opened_index (bundled bytes c zeros))

  module _ (f : Framed) (accepts : framed_opening given (bundled bytes c zeros) ≡ value f) where
    abbrev info : ImageInfo
    info = f.info

    e : opening (bundled bytes c zeros) ≡ value info
    e = (framed_given given (bundled bytes c zeros) f accepts).info

    index_opened : framed_index given (tables_in bytes c words_read index) ≡ opened_index (tables_in bytes c words_read index)
    index_opened =
        sym (index_accepted given (tables_in bytes c words_read index) f.frames (framed_given given (bundled bytes c zeros) f accepts).frames)

    asks : (i : List ℕ) → length i ≡ index_words c → length i ≡ index_length (bundled bytes c i).rebases (bundled bytes c i).binds
    asks i h = h ∙ sym (index_asks bytes c a)

    old_opens : opening (bundled bytes c old) ≡ value info
    old_opens = opening_same (bundled bytes c zeros) old zeros (old_long ∙ sym zeros_long) ∙ e

    index_same : opened_index (bundled bytes c old) ≡ opened_index (bundled bytes c zeros)
    index_same =
        index_whole (bundled bytes c zeros) old (asks old old_long) info old_opens
        ∙ sym (index_whole (bundled bytes c zeros) zeros (asks zeros zeros_long) info e)

    read_said : read ≡ tables_said
    read_said =
        ap (λ (i : List ℕ). tables_in bytes c words_read (i ++ drop (index_words c) index)) index_opened
        ∙ decoded_bundled bytes more (opened_index (tables_in bytes c words_read index) ++ drop (index_words c) index) c
        ∙ ap (bundled bytes c)
        (ap (λ (t : Tables). take (index_words c) (opened_index t ++ drop (index_words c) index)) (decoded_bundled bytes more index c)
        ∙ take_at (opened_index (bundled bytes c old)) (drop (index_words c) index) (index_words c)
        (index_long (bundled bytes c zeros) old (asks old old_long) info old_opens ∙ old_long)
        ∙ index_same)

    opened_comes : to_come read (begun u (value f) l) ≡ opened_text (under u tables_said) (value f)
    opened_comes =
        let o : Opened tables_said = record { index_before = zeros; gave = info; accepted = e; left = refl } in
        ap (λ (t : Tables). to_come t (begun u (value f) l)) read_said
        ∙ sym (come_under u tables_said (begun u (value f) l))
        ∙ listing_comes (under u tables_said) (opened_under u o) f l
        (ledger_room (under u tables_said) (opened_under u o) (files_length bytes c a) l long 0 1 (omega arith) (omega arith))
        (ledger_room (under u tables_said) (opened_under u o) (files_length bytes c a) l long 2 3 (omega arith) (omega arith))

  accepted_comes : to_come read (begun u (framed_opening given (tables_in bytes c words_read index)) l)
      ≡ opened_text (under u tables_said) (framed_opening given (bundled bytes c zeros))
  accepted_comes = rw opens_same (go (framed_opening given (bundled bytes c zeros)) refl)
    where
      go : (o : Outcome Framed) → framed_opening given (bundled bytes c zeros) ≡ o → to_come read (begun u o l) ≡ opened_text (under u tables_said) o
      go (value f) e = opened_comes f e
      go (absent r) e = over_comes u read (under u tables_said) (absent r) l refl
      go (refused k) e = over_comes u read (under u tables_said) (refused k) l refl

-- What comes of a bundle that was decoded and then opened.
module _ (u : Setting) (bytes words index l : List ℕ) where
  abbrev words_decoded : List ℕ
  words_decoded = words_after bytes words

  abbrev opened : List ℕ
  opened = index_after bytes words_decoded index

  module _ (room : index_size ≤ length index) (long : length l ≡ ledger_size) where
    pub printed : to_come (tables_lent bytes words_decoded opened) (begun u (opening_in bytes words_decoded index) l) ≡ bundle_text u bytes
    unfolding bundle_text bundle_opening
    printed =
        counted_by bytes
        (λ (o : Outcome Counts). to_come (tables_by bytes o (words_by bytes o words) (index_by bytes o (words_by bytes o words) index))
        (begun u (opening_by bytes o (words_by bytes o words) index) l)
        ≡ opened_text (under u (with_index (bundle_tables bytes) (opened_index (bundle_tables bytes)))) (and_then o (λ c. framed_opening (Some (ranges_of bytes)) (bundle_tables bytes))))
        (λ a. accepted_comes u bytes (counts_of bytes) a (drop (table_words (counts_of bytes)) words) index l room long)
        (over_comes u _ (under u (with_index (bundle_tables bytes) (opened_index (bundle_tables bytes)))) (refused BundleLength) l refl)

    -- The pieces that are handed out, one after the other, are the bundle's text.
    pub printed_pieces : (k : ℕ) → pieces (tables_lent bytes words_decoded opened) piece_size k (begun u (opening_in bytes words_decoded index) l) ≡ take (k * piece_size) (bundle_text u bytes)
    printed_pieces k =
        pieces_text (tables_lent bytes words_decoded opened) piece_size k (begun u (opening_in bytes words_decoded index) l) (begun_sound u (opening_in bytes words_decoded index) l)
        ∙ ap (take (k * piece_size)) printed

    -- The same, of what the code decoded and opened.
    pub printed_by : (w i : List ℕ) (o : Outcome Framed) (q : List ℕ → Standing) → w ≡ words_decoded → i ≡ index_after bytes w index → o ≡ opening_in bytes w index
        → q ≡ begun u o → to_come (tables_lent bytes w i) (q l) ≡ bundle_text u bytes
    printed_by w i o q ew ei eo eq = rw (eq, eo, ei, ew) printed
