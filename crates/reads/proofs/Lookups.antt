-- What a segment answers, by the tests that the code makes, and lookups by the first segment.
use Rattle.std.proofs.Common.{◌≡◌, ℕ, ◌+◌, ◌-◌, ◌^◌, ◌<◌, ◌≤◌, true, false, ◌&&◌, eqb, ltb, leb, List, [], ◌∷◌, refl, ◌∙◌, ltb-true, le-ltb, le-leb, leb-false, leb-true}
use mathlib.Core.Bool.{and-false}
use borrow.Author.Tests.{lt-leb}
use Rattle.reads.specs.Outcome.{value, absent, because, choose, sum64}
use Rattle.reads.specs.declared.answer.Reason.TheVariants.{Unmapped}
use Rattle.reads.specs.Segment.{ends, holds, place_at, placed, lookup, mapped_size, ends_in_file, carries, address_of}
use Rattle.reads.specs.declared.segment.Segment.{Segment}
use Rattle.reads.proofs.Outcomes.{sum_fits, sum_over}
use Rattle.reads.proofs.Tests.{both_true, choose_true, choose_false}

module _ (s : Segment) where
  pub ends_not : ends s ≡ false → s.vmaddr + s.vmsize < 2 ^ 64
  unfolding ends
  ends_not e = leb-false (2 ^ 64) (s.vmaddr + s.vmsize) e

  pub holds_none : (va : ℕ) → s.filesize ≤ 0 → holds s va ≡ false
  unfolding holds
  holds_none va e = rw (le-ltb 0 s.filesize e)

  pub holds_before : (va : ℕ) → va < s.vmaddr → holds s va ≡ false
  unfolding holds
  holds_before va l = simp (lt-leb s.vmaddr va l, and-false)

  -- An address that the segment holds is at or above vmaddr and below its end, and the segment has bytes in the file.
  pub holds_is : (va : ℕ) → holds s va ≡ true → (0 < s.filesize) × (s.vmaddr ≤ va) × (va < s.vmaddr + s.vmsize)
  unfolding holds
  holds_is va e =
      let p = both_true (ltb 0 s.filesize) (leb s.vmaddr va && ltb va (s.vmaddr + s.vmsize)) e in
      let q = both_true (leb s.vmaddr va) (ltb va (s.vmaddr + s.vmsize)) p.1 in
      (ltb-true _ _ p.0, leb-true _ _ q.0, ltb-true _ _ q.1)

  pub placed_past : (va : ℕ) → s.filesize ≤ va - s.vmaddr → absent Unmapped ≡ placed s va
  unfolding placed choose
  placed_past va h = simp (le-leb s.filesize (va - s.vmaddr) h)

  pub placed_over : (va : ℕ) → va - s.vmaddr < s.filesize → 2 ^ 64 ≤ s.fileoff + (va - s.vmaddr) → absent Unmapped ≡ placed s va
  unfolding placed choose
  placed_over va h l = simp (lt-leb s.filesize (va - s.vmaddr) h, sum_over s.fileoff (va - s.vmaddr) l)

  pub placed_at : (va : ℕ) → va - s.vmaddr < s.filesize → s.fileoff + (va - s.vmaddr) < 2 ^ 64
      → value (place_at s.file (s.fileoff + (va - s.vmaddr))) ≡ placed s va
  unfolding placed choose
  placed_at va h l = simp (lt-leb s.filesize (va - s.vmaddr) h, sum_fits s.fileoff (va - s.vmaddr) l)

  pub carries_is : (file offset : ℕ) → carries s file offset ≡ true → s.fileoff ≤ offset
  unfolding carries
  carries_is file offset e =
      leb-true _ _ (both_true (leb s.fileoff offset) (ltb offset (s.fileoff + mapped_size s)) (both_true (eqb s.file file) _ e).1).0

pub lookup_out : (va : ℕ) → lookup [] va ≡ absent Unmapped
unfolding lookup
lookup_out va = refl

pub address_out : (file offset : ℕ) → address_of [] file offset ≡ absent Unmapped
unfolding address_of
address_out file offset = refl

-- The first of the segments decides, or is passed.
module _ (s : Segment) (ss : List Segment) where
  pub lookup_ends : (va : ℕ) → ends s ≡ true → lookup (s ∷ ss) va ≡ absent Unmapped
  unfolding lookup
  lookup_ends va e = choose_true _ _ e

  pub lookup_holds : (va : ℕ) → ends s ≡ false → holds s va ≡ true → lookup (s ∷ ss) va ≡ placed s va
  unfolding lookup
  lookup_holds va e h = choose_false _ _ e ∙ choose_true _ _ h

  pub lookup_on : (va : ℕ) → ends s ≡ false → holds s va ≡ false → lookup (s ∷ ss) va ≡ lookup ss va
  unfolding lookup
  lookup_on va e h = choose_false _ _ e ∙ choose_false _ _ h

  pub address_ends : (file offset : ℕ) → ends_in_file s ≡ true → address_of (s ∷ ss) file offset ≡ absent Unmapped
  unfolding address_of
  address_ends file offset e = choose_true _ _ e

  pub address_carries : (file offset : ℕ) → ends_in_file s ≡ false → carries s file offset ≡ true
      → address_of (s ∷ ss) file offset ≡ because Unmapped (sum64 s.vmaddr (offset - s.fileoff))
  unfolding address_of
  address_carries file offset e h = choose_false _ _ e ∙ choose_true _ _ h

  pub address_on : (file offset : ℕ) → ends_in_file s ≡ false → carries s file offset ≡ false
      → address_of (s ∷ ss) file offset ≡ address_of ss file offset
  unfolding address_of
  address_on file offset e h = choose_false _ _ e ∙ choose_false _ _ h
