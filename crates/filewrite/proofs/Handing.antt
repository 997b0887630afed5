-- The ends of a writing, by the branches of the code.
use Rattle.std.specs.Prelude.{Option}
use Rattle.std.specs.Io.KnownBytes.{Appends}
use Prim.Native.Nat.{ℕ}
use mathlib.Core.Path.{◌≡◌, refl, sym, ap, ◌∙◌, subst}
use mathlib.Core.List.{List, []}
use Rattle.pointers.specs.Tables.{Tables}
use Rattle.printing.specs.Pieces.{Standing, to_come}
use Rattle.printing.specs.Written.{HandedOver}
use Rattle.reads.specs.Outcome.{Outcome}
use Rattle.frames.specs.declared.frames.Ranges.{Ranges}
use Rattle.macho.specs.declared.open.OpenedFile.{OpenedFile}
use Rattle.filelist.specs.FileText.{framed_file, opened_by}
use Rattle.macho.specs.OpenFile.{Kept, Buffers, buffers}
use Rattle.macho.specs.declared.open.Lent.{Lent}
use Rattle.filelist.specs.FileLent.{index_used, segments_after, sections_after, index_after, tables_lent, framed_lent, buffers_after}
use Rattle.filewrite.specs.Written.{piece_bytes, wrote, end_of, over, failed, Written, tables_read, tables_given, tables_left}
use Rattle.filewrite.specs.declared.write.Wrote.{Wrote}

-- Of a file: from what its opening gave and left.
module _ (x : Option Ranges) (file segments sections rebases binds index : List ℕ) (o : Outcome OpenedFile) (s c r b i : List ℕ)
    (eo : o ≡ opened_by file (framed_file x file segments sections rebases binds (index_used rebases binds index)))
    (es : s ≡ segments_after x file segments sections rebases binds index)
    (ec : c ≡ sections_after x file segments sections rebases binds index)
    (er : r ≡ rebases) (eb : b ≡ binds)
    (ei : i ≡ index_after x file segments sections rebases binds index) where
  tables_read_lem : tables_lent o file s c r b i ≡ tables_read x file segments sections rebases binds index
  tables_read_lem = rw (eo, es, ec, er, eb, ei)

module _ (x : Option Ranges) (file : List ℕ) (l m : Lent) (kept : Kept l m) (o : Outcome OpenedFile) (eo : o ≡ opened_by file (framed_lent x file l))
    (left : buffers m ≡ buffers_after x file l) where
  abbrev read : Tables
  read = tables_given o file m

  tables_left_lem : read ≡ tables_left x file l
  tables_left_lem =
      tables_read_lem x file l.segments.now l.sections.now l.rebases.now l.binds.now l.index.now o m.segments.now m.sections.now m.rebases.now m.binds.now
      m.index.now eo (ap (λ (y : Buffers). y.segments) left) (ap (λ (y : Buffers). y.sections) left) kept.rebases kept.binds
      (ap (λ (y : Buffers). y.index) left)

  -- What the writer holds then.
  pub held_left : (p p' : Standing) → p ≡ p' → (old new : Option (List ℕ)) → Appends old new (to_come read p) → Appends old new (to_come (tables_left x file l) p')
  held_left p p' ep old new h =
      subst (λ (y : Standing). Appends old new (to_come (tables_left x file l) y)) ep
      (subst (λ (t : Tables). Appends old new (to_come t p)) tables_left_lem h)

  module _ (p p' q : Standing) (b d : List ℕ) (ep : p ≡ p') (h : HandedOver piece_bytes read p b q d) where
    moved_over : HandedOver piece_bytes (tables_left x file l) p' b q d
    moved_over =
        subst (λ (y : Standing). HandedOver piece_bytes (tables_left x file l) y b q d) ep
        (subst (λ (t : Tables). HandedOver piece_bytes t p b q d) tables_left_lem h)

    pub write_ends : to_come read q ≡ [] → (w : Wrote) → w ≡ end_of q.said → Written (tables_left x file l) p' b w q.ledger d
    write_ends e w g =
        record { last = q; handed = moved_over; ledger = refl; ends = over (ap (λ (t : Tables). to_come t q) (sym tables_left_lem) ∙ e) g }

    pub write_fails : Written (tables_left x file l) p' b (wrote 3 0) q.ledger d
    write_fails = record { last = q; handed = moved_over; ledger = refl; ends = failed refl }
