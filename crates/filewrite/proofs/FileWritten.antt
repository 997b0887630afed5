-- Where no write failed the text that was handed to the writer is the file's text.
use Rattle.std.specs.Prelude.{Option}
use Prim.Native.Nat.{ℕ, ◌≤◌}
use mathlib.Core.Path.{◌≡◌, ap, ◌∙◌}
use mathlib.Core.List.{List}
use lib.ListN.{length}
use Rattle.reads.specs.declared.text.Reading.TheVariants.{New}
use Rattle.pointers.specs.Index.{index_length}
use Rattle.pointers.specs.Tables.{reading_new, section_table_words}
use Rattle.walks.specs.Slots.{slot_count}
use Rattle.macho.specs.FileTables.{section_table}
use Rattle.macho.specs.OpenFile.{segment_table_words}
use Rattle.frames.specs.declared.frames.Ranges.{Ranges}
use Rattle.printing.specs.Pieces.{begun}
use Rattle.filelist.specs.FileText.{file_setting, framed_file, file_text}
use Rattle.filelist.specs.FileLent.{index_used}
use Rattle.filelist.proofs.FilePrinted.{file_printed}
use Rattle.filewrite.specs.Written.{Ends, over, failed, Written, tables_read}
use Rattle.filewrite.specs.declared.write.Wrote.{Wrote}
use Rattle.printing.proofs.Handing.{all_handed}

module _ (x : Option Ranges) (file segments sections rebases binds index ledger out : List ℕ) (w : Wrote) (l c : List ℕ) where
  abbrev pub FileWritten : Type 0
  FileWritten =
      Written (tables_read x file segments sections rebases binds index)
      (begun (file_setting New rebases) (framed_file x file segments sections rebases binds (index_used rebases binds index)) ledger) out w l c

  -- The tables have the words that are to be lent, and the ledger a word for each slot of the two class sections, and of the two category sections.
  pub written_text : (h : FileWritten) → (w.status ≡ 3 → ⊥) → index_length rebases binds ≤ length index
      → slot_count (section_table file) 0 1 ≤ length ledger → slot_count (section_table file) 2 3 ≤ length ledger
      → length segments ≡ segment_table_words → length sections ≡ section_table_words
      → h.handed.text ≡ file_text reading_new x file rebases binds
  written_text h n long classes categories rows words = go h.ends
    where
      go : Ends (tables_read x file segments sections rebases binds index) h.last w → h.handed.text ≡ file_text reading_new x file rebases binds
      go (over e g) =
          all_handed _ _ _ _ h.handed.pieces e
          ∙ file_printed New x file segments sections rebases binds index ledger long classes categories rows words
      go (failed e) = absurd (n (ap (λ (v : Wrote). v.status) e))
