-- What is asked of a file before its tables are opened, by the tests that the code makes.
use Prim.Native.Nat.{ℕ, ◌≤◌}
use mathlib.Core.Path.{◌≡◌}
use mathlib.Core.Bool.{◌&&◌}
use mathlib.Core.List.{List}
use lib.Dec.{leb, eqb}
use lib.ListN.{length}
use borrow.Author.Tests.{leb-true, eqb-true}
use Rattle.reads.specs.Outcome.{value}
use Rattle.reads.proofs.Outcomes.{then_came}
use Rattle.reads.proofs.Tests.{both_true}
use Rattle.pointers.specs.Tables.{section_table_words}
use Rattle.pointers.specs.Question.{question, image_fits}
use Rattle.pointers.proofs.Questions.{question_came}
use Rattle.macho.specs.Commands.{asked_commands}
use Rattle.macho.specs.FileTables.{file_segments}
use Rattle.macho.specs.OpenFile.{segment_table_words, asked_lent, asked_file}
use Rattle.reads.specs.declared.answer.Question.TheVariants.{FileLength, SegmentTable, SectionTable}

module _ (file : List ℕ) (segments sections : ℕ) where
  -- What a file that passes has.
  pub record Passed : Type 0 where
    pub lent_segments : segments ≡ segment_table_words
    pub few_segments : length (file_segments file) ≤ 64
    pub lent_sections : sections ≡ section_table_words

  pub passed : asked_file file segments sections ≡ value tt → Passed
  unfolding asked_file asked_lent
  passed e =
      let a = then_came (asked_commands file) _ tt e in
      let b = then_came (question FileLength (image_fits (length file))) _ tt a.2 in
      let d = then_came (question SegmentTable (eqb segments segment_table_words && leb (length (file_segments file)) 64)) _ tt b.2 in
      let two = both_true (eqb segments segment_table_words) (leb (length (file_segments file)) 64) (question_came SegmentTable _ _ d.1) in
      record {
        lent_segments = eqb-true segments segment_table_words two.0;
        few_segments = leb-true (length (file_segments file)) 64 two.1;
        lent_sections = eqb-true sections section_table_words (question_came SectionTable _ _ d.2);
      }
