-- Opening a file is opening the tables that loader.h defines for it (document 02, note 3): what later calls are lent are these tables, and
-- `open` over them gives the same image info and leaves the same index. So all that is proved of opened tables holds of an opened file.
use Prim.Native.Nat.{ℕ, ◌+◌, ◌*◌, ◌≤◌, ◌<◌}
use mathlib.Core.Path.{◌≡◌, refl, sym, ◌∙◌, ap}
use mathlib.Core.List.{List}
use native.Mathlib.Omega.{arith}
use lib.ListN.{length, drop, length-take, length-drop, length-append}
use lib.Seq.{take_all, take-take}
use Rattle.reads.specs.Outcome.{value, refused}
use Rattle.reads.specs.Segment.{segment_words}
use Rattle.reads.specs.Place.{part}
use Rattle.reads.proofs.Outcomes.{then_came}
use Rattle.pointers.specs.Tables.{Tables, with_index}
use Rattle.pointers.specs.ImageInfo.{image_info}
use Rattle.pointers.specs.Open.{asked_opening, opening, opened_index, Opened}
use Rattle.pointers.specs.declared.imageinfo.ImageInfo.{ImageInfo}
use Rattle.pointers.proofs.Rooms.{tables_room, Accepted, accepted_parts}
use Rattle.pointers.proofs.Opens.{opened_index_by}
use Rattle.macho.specs.Commands.{command_bytes}
use Rattle.macho.specs.Segments.{written}
use Rattle.macho.specs.FileTables.{file_segments, segment_table, section_table, info_section, info_bytes, file_tables}
use Rattle.macho.specs.OpenFile.{asked_file, opened_file, opening_file, segments_left, sections_left, index_left, later_tables}
use Rattle.macho.specs.declared.open.OpenedFile.{OpenedFile}
use Rattle.macho.proofs.Asking.{passed}
use Rattle.macho.proofs.Tables.{length_segments, segments_back}
use Rattle.reads.specs.declared.answer.Question.{Question}

-- What opening accepted.
opening_asked : (t : Tables) (i : ImageInfo) → opening t ≡ value i → Accepted t
unfolding opening
opening_asked t i e = let a = then_came (asked_opening t) (λ _. image_info t.info) i e in accepted_parts t a.0 a.1

length_written : (ws t : List ℕ) → length ws ≤ length t → length (written ws t) ≡ length t
unfolding written
length_written ws t h = omega (arith, length-append ws (drop (length ws) t), length-drop (length ws) t)

-- A part that is not empty ends in the file.
part_inside : (file : List ℕ) (from size : ℕ) → 0 < length (part file from size) → from + length (part file from size) ≤ length file
part_inside file from size h = omega (arith, length-take size (drop from file), length-drop from file)

-- A part that the end cuts is as long as what is there.
part_again : (file : List ℕ) (from size : ℕ) → part file from (length (part file from size)) ≡ part file from size
part_again file from size =
    let h : length (part file from size) ≤ size = omega (arith, length-take size (drop from file)) in
    sym (take-take (length (part file from size)) size (drop from file) h) ∙ take_all (length (part file from size)) (part file from size) (omega arith)

module _ (file segments sections rebases binds index : List ℕ) (o : OpenedFile) (e : opening_file file segments sections rebases binds index ≡ value o) where
  -- What came before: the tables opened, and what was handed out of them.
  record Came : Type 0 where
    pub info : ImageInfo
    pub asked : asked_file file (length segments) (length sections) ≡ value tt
    pub opens : opening (file_tables file rebases binds index) ≡ value info
    pub gives : opened_file file info ≡ o

  came : Came
  unfolding opening_file
  came =
      let a = then_came (asked_file file (length segments) (length sections)) _ o e in
      let b = then_came (opening (file_tables file rebases binds index)) (λ i. value (opened_file file i)) o a.2 in
      let q : value (opened_file file b.0) ≡ value o = b.2 in
      record { info = b.0; asked = a.1; opens = b.1; gives = cc }

  pub segments_filled : segments_left file segments sections rebases binds index ≡ written (segment_table file) segments
  unfolding segments_left
  segments_filled = rw e

  pub sections_filled : sections_left file segments sections rebases binds index ≡ section_table file
  unfolding sections_left
  sections_filled = rw e

  pub index_written : index_left file segments sections rebases binds index ≡ opened_index (file_tables file rebases binds index)
  unfolding index_left file_tables
  index_written = rw e (sym (opened_index_by (file_tables file rebases binds index) ∙ rw came.opens))

  -- The parts that later calls are lent are there.
  pub record LaterRoom : Type 0 where
    pub rows : segment_words * o.segments ≤ length (segments_left file segments sections rebases binds index)
    pub bytes : o.info_at + o.info_len ≤ length file

  pub later_room : LaterRoom
  unfolding file_tables
  later_room =
      let p = passed file (length segments) (length sections) came.asked in
      let i : 8 ≤ length (info_bytes file) = (tables_room (file_tables file rebases binds index) tt (opening_asked _ _ came.opens).tables_pass).info_bytes in
      let n = length_segments (command_bytes file) (file_segments file) in
      let w = length_written (segment_table file) segments (omega (arith, p.few_segments, p.lent_segments)) in
      record {
        rows = rw (← came.gives, segments_filled, w) (omega (arith, p.few_segments, p.lent_segments));
        bytes = rw (← came.gives) (part_inside file (info_section file).offset (info_section file).size (omega arith));
      }

  -- What stands in the buffers, and the bytes of the image info, are the tables for the file, with the index that opening them leaves.
  pub left_are_tables : later_tables file segments sections rebases binds index o
      ≡ with_index (file_tables file rebases binds index) (opened_index (file_tables file rebases binds index))
  unfolding file_tables
  left_are_tables =
      rw (
        ← came.gives,
        sections_filled,
        index_written,
        part_again file (info_section file).offset (info_section file).size,
        segments_back (command_bytes file) (file_segments file) segments _ (length (file_segments file)) refl segments_filled,
      )

  -- The same with the index as it was lent.
  before_same : with_index (later_tables file segments sections rebases binds index o) index ≡ file_tables file rebases binds index
  unfolding file_tables
  before_same = ap (λ (t : Tables). with_index t index) left_are_tables

  -- Opening the tables for the file gives the image info that was handed out.
  pub opening_gives : opening (file_tables file rebases binds index) ≡ value o.info
  opening_gives = came.opens ∙ ap (λ (x : OpenedFile). value x.info) came.gives

  -- Later calls are lent opened tables.
  pub file_opened : Opened (later_tables file segments sections rebases binds index o)
  file_opened =
      record {
        index_before = index;
        gave = o.info;
        accepted = ap opening before_same ∙ opening_gives;
        left = index_written ∙ sym (ap opened_index before_same);
      }

-- With any number nothing lent is changed.
pub number_keeps : (file segments sections rebases binds index : List ℕ) (k : Question) → opening_file file segments sections rebases binds index ≡ refused k
    → (segments_left file segments sections rebases binds index ≡ segments)
    × (sections_left file segments sections rebases binds index ≡ sections)
    × (index_left file segments sections rebases binds index ≡ index)
unfolding segments_left sections_left index_left
number_keeps file segments sections rebases binds index k e = (rw e, rw e, rw e)
