-- The chain of a page (fixup-chains.h, dyld_chained_ptr_64_rebase and dyld_chained_ptr_64_bind), over the pointer format.
use Rattle.std.specs.Prelude.{ℕ, zero, suc, ◌+◌, ◌-◌, ◌*◌, ◌/◌, ◌%◌, ◌^◌, List, [], ◌∷◌, ◌==◌, nat_lt}
use Rattle.reads.specs.Outcome.{Outcome, value, refused, and_then, choose}
use Rattle.macho.specs.Number.{u64_at}
use Rattle.fixups.specs.FixupChains.{lies}
use Rattle.fixups.specs.Imports.{bound_slot, import_at}
use Rattle.fixups.specs.declared.chain.PointerFormat.{PointerFormat}
use Rattle.fixups.specs.declared.chain.PointerFormat.TheVariants.{Ptr64, Ptr64Offset}
use Rattle.pointers.specs.declared.table.Rebase as pointers
use Rattle.fixups.specs.declared.chain.Fixups.{Fixups}
use Rattle.fixups.specs.declared.chain.Starts as code
use Rattle.fixups.specs.declared.chain.Fixup.{Fixup}
use Rattle.fixups.specs.declared.chain.Data.{Data}
use Rattle.fixups.specs.declared.chain.Fixup.TheVariants.{Rebase, Bind}
use Rattle.reads.specs.declared.answer.Question.TheVariants.{FixupSlot}

-- A segment with starts: its command's vmaddr and fileoff, its starts' pointer_format and page_size.
pub record Starts : Type 0 where
  pub vmaddr : ℕ
  pub fileoff : ℕ
  pub format : ℕ
  pub size : ℕ

-- The number of a format that is read: DYLD_CHAINED_PTR_64, DYLD_CHAINED_PTR_64_OFFSET.
abbrev pub number_of : PointerFormat → ℕ
number_of Ptr64 = 2
number_of Ptr64Offset = 6

abbrev pub starts_in : code.Starts → Starts
starts_in s = record { vmaddr = s.vmaddr; fileoff = s.fileoff; format = number_of s.format; size = s.size }

-- The bytes to the next slot: next, bits 51 to 62, counts steps of 4.
unfoldable pub step_of : ℕ → ℕ
step_of word = word / 2 ^ 51 % 2 ^ 12 * 4

-- Format 6 (DYLD_CHAINED_PTR_64_OFFSET) counts targets from the image base.
unfoldable pub origin_of : ℕ → ℕ → ℕ
origin_of format base = choose (format == 6) base 0

-- target, 36 bits, then high8, the address's top eight.
unfoldable pub target_of : ℕ → ℕ → ℕ → ℕ
target_of format base word = (word % 2 ^ 36 + word / 2 ^ 36 % 2 ^ 8 * 2 ^ 56 + origin_of format base) % 2 ^ 64

-- The address of the slot `at` bytes into its segment.
unfoldable pub slot_of : Starts → ℕ → ℕ
slot_of s at = (s.vmaddr + at) % 2 ^ 64

abbrev pub rebase : ℕ → ℕ → pointers.Rebase
rebase slot target = record { slot = slot; target = target }

-- The top bit marks a bind, whose ordinal has 24 bits.
unfoldable pub entry_of : List ℕ → Fixups → Starts → ℕ → ℕ → Outcome Fixup
entry_of body f s at word =
    choose (nat_lt word (2 ^ 63))
    (value (Rebase (rebase (slot_of s at) (target_of s.format f.base word))))
    (and_then (import_at body f (word % 2 ^ 24)) (λ t. value (Bind (bound_slot (slot_of s at) t))))

-- What a chain meets at a slot: the record, and the bytes to the next slot.
pub record Met : Type 0 where
  pub fixup : Fixup
  pub step : ℕ

abbrev pub met : Fixup → ℕ → Met
met x n = record { fixup = x; step = n }

-- The word of the slot `at` bytes into its segment: its bytes count from the segment's fileoff.
abbrev pub slot_word : List ℕ → Starts → ℕ → ℕ
slot_word file s at = u64_at file (s.fileoff + at)

unfoldable pub visit_of : List ℕ → List ℕ → Fixups → Starts → ℕ → Outcome Met
visit_of file body f s at =
    choose (lies file (s.fileoff + at) 8)
    (and_then (entry_of body f s at (slot_word file s at)) (λ x. value (met x (step_of (slot_word file s at)))))
    (refused FixupSlot)

-- The chain from o bytes into the page that stands `page` bytes into its segment. Each slot stands after the one before, so a
-- page of n bytes has fewer than n slots to a chain: the first number counts down, and at zero no byte of the page is left.
unfoldable pub chain : List ℕ → List ℕ → Fixups → Starts → ℕ → ℕ → ℕ → Outcome (List Fixup)
chain file body f s page zero o = refused FixupSlot
chain file body f s page (suc k) o =
    choose (nat_lt o s.size)
    (and_then (visit_of file body f s (page + o))
    (λ m. choose (m.step == 0)
    (value (m.fixup ∷ []))
    (and_then (chain file body f s page k (o + m.step)) (λ xs. value (m.fixup ∷ xs)))))
    (refused FixupSlot)

abbrev pub chain_at : List ℕ → List ℕ → Fixups → Starts → ℕ → ℕ → Outcome (List Fixup)
chain_at file body f s page o = chain file body f s page (s.size - o) o

-- The same of the fixup data that the code is lent.
abbrev pub visit_in : Data → code.Starts → ℕ → Outcome Met
visit_in d s at = visit_of d.file.now d.body.now d.fixups (starts_in s) at

abbrev pub chain_in : Data → code.Starts → ℕ → ℕ → Outcome (List Fixup)
chain_in d s page o = chain_at d.file.now d.body.now d.fixups (starts_in s) page o
