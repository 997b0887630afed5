-- A section of the table, by the tests that the code makes.
use Prim.Native.Nat.{ℕ, ◌/◌}
use mathlib.Core.Path.{◌≡◌}
use mathlib.Core.List.{List}
use lib.Dec.{ltb, eqb}
use borrow.Author.Tests.{eqb-true}
use Rattle.reads.specs.Table.{records, word_of}
use Rattle.reads.proofs.Tests.{by_choose, both_true}
use Rattle.pointers.specs.Tables.{section_words}
use Rattle.pointers.specs.Section.{section_at, section_of}
use Rattle.pointers.specs.declared.section.ObjcSection.{ObjcSection}

module _ (ws : List ℕ) (i : ℕ) where
  -- What holds of a present section, and of an absent one, holds of section i.
  pub by_section : (P : ObjcSection → Type 0)
      → (word_of section_words ws i 0 ≡ 1 → P (section_of (word_of section_words ws i 1) (word_of section_words ws i 2 / 8)))
      → P (section_of 0 0) → P (section_at ws i)
  unfolding section_at
  by_section P present none =
      by_choose P
      (λ e. present (eqb-true (word_of section_words ws i 0) 1 (both_true (ltb i (records section_words ws)) (eqb (word_of section_words ws i 0) 1) e).1))
      (λ e. none)
