-- What the questions tell of tables that pass them.
use Prim.Native.Nat.{◌≤◌, ◌<◌, ◌^◌}
use mathlib.Core.Path.{◌≡◌}
use mathlib.Core.Bool.{true}
use native.Mathlib.Omega.{arith}
use lib.ListN.{length}
use borrow.Author.Tests.{leb-true}
use Rattle.reads.specs.Outcome.{value}
use Rattle.reads.specs.Table.{records}
use Rattle.reads.specs.Files.{longest}
use Rattle.reads.specs.Segment.{segment_words}
use Rattle.reads.proofs.Outcomes.{then_came}
use Rattle.pointers.specs.Tables.{Tables, rebase_words, bind_words}
use Rattle.pointers.specs.Question.{question, image_fits, whole_rows, segment_files, section_table, info_whole, asked_tables, asked_index, asked_lent, asked, bind_files, names_inside, names_utf8}
use Rattle.pointers.specs.Index.{index_length}
use Rattle.pointers.specs.Open.{asked_opening}
use Rattle.pointers.proofs.Questions.{question_came, rows_most, index_room}
use Rattle.reads.specs.declared.answer.Question.TheVariants.{FileLength, SegmentTable, SectionTable, ImageInfoLength, RebaseTable, NameInside, NameUtf8, FileLent, BindTable, IndexLength}

pub record Room (t : Tables) : Type 0 where
  pub image_length : longest t.files < 2 ^ 32
  pub segment_count : records segment_words t.segments ≤ 64
  pub sections_fit : section_table (longest t.files) t.sections ≡ true
  pub info_bytes : 8 ≤ length t.info
  pub rebase_count : records rebase_words t.rebases ≤ 16777215
  pub bind_count : records bind_words t.binds ≤ 16777215

pub tables_room : (t : Tables) (u : Unit {0}) → asked_tables t ≡ value u → Room t
unfolding asked_tables image_fits info_whole
tables_room t u e =
    let a = then_came (question FileLength (image_fits (longest t.files))) _ u e in
    let b = then_came (question SegmentTable (whole_rows segment_words 64 (length t.segments))) _ u a.2 in
    let g = then_came (question FileLent (segment_files t.files t.segments)) _ u b.2 in
    let c = then_came (question SectionTable (section_table (longest t.files) t.sections)) _ u g.2 in
    let d = then_came (question ImageInfoLength (info_whole (length t.info))) _ u c.2 in
    let f = then_came (question RebaseTable (whole_rows rebase_words 16777215 (length t.rebases))) _ u d.2 in
    record {
      image_length = omega (arith, leb-true (longest t.files) 4294967295 (question_came FileLength _ _ a.1));
      segment_count = rows_most segment_words 64 (length t.segments) (question_came SegmentTable _ _ b.1);
      sections_fit = question_came SectionTable _ _ c.1;
      info_bytes = leb-true 8 (length t.info) (question_came ImageInfoLength _ _ d.1);
      rebase_count = rows_most rebase_words 16777215 (length t.rebases) (question_came RebaseTable _ _ f.1);
      bind_count = rows_most bind_words 16777215 (length t.binds) (question_came BindTable _ _ f.2);
    }

pub asked_tables_lem : (t : Tables) (u : Unit {0}) → asked t ≡ value u → asked_tables t ≡ value tt
unfolding asked_lent asked_tables asked_index
asked_tables_lem t u e = (then_came (asked_tables t) (λ _. asked_index t) u e).1

pub asked_index_lem : (t : Tables) (u : Unit {0}) → asked_index t ≡ value u → index_length t.rebases t.binds ≤ length t.index
unfolding asked_index
asked_index_lem t u e = index_room _ _ _ (question_came IndexLength _ _ e)

-- What opening asks, taken apart.
pub record Accepted (t : Tables) : Type 0 where
  pub tables_pass : asked_tables t ≡ value tt
  pub names_lent : bind_files t.files t.binds ≡ true
  pub names_in : names_inside t.files t.binds ≡ true
  pub names_good : names_utf8 t.files t.binds ≡ true
  pub index_pass : asked_index t ≡ value tt

pub accepted_parts : (t : Tables) (u : Unit {0}) → asked_opening t ≡ value u → Accepted t
unfolding asked_opening
accepted_parts t u e =
    let a = then_came (asked_tables t) _ u e in
    let d = then_came (question FileLent (bind_files t.files t.binds)) _ u a.2 in
    let b = then_came (question NameInside (names_inside t.files t.binds)) _ u d.2 in
    let c = then_came (question NameUtf8 (names_utf8 t.files t.binds)) _ u b.2 in
    record {
      tables_pass = a.1;
      names_lent = question_came FileLent _ _ d.1;
      names_in = question_came NameInside _ _ b.1;
      names_good = question_came NameUtf8 _ _ c.1;
      index_pass = c.2;
    }
