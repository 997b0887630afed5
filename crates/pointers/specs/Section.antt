-- The section table (document 01, "Tables lent by the caller"; section.rs).
use Rattle.std.specs.Prelude.{ℕ, ◌/◌, List, ◌&&◌, eqb, ltb}
use Rattle.reads.specs.Outcome.{choose}
use Rattle.reads.specs.Table.{records, word_of}
use Rattle.pointers.specs.Tables.{section_words}
use Rattle.pointers.specs.declared.section.ObjcSection.{ObjcSection}

abbrev pub section_of : ℕ → ℕ → ObjcSection
section_of vmaddr slots = record { vmaddr = vmaddr; slots = slots }

-- Section i of the table: slots of 8 full bytes. An absent one has none, and its other words are ignored; a partial row is none.
unfoldable pub section_at : List ℕ → ℕ → ObjcSection
section_at ws i =
    choose (ltb i (records section_words ws) && eqb (word_of section_words ws i 0) 1)
    (section_of (word_of section_words ws i 1) (word_of section_words ws i 2 / 8))
    (section_of 0 0)
